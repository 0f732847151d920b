-- Corner cases of the definitions, computed: document 01's cuts for P1 and its traps, sets that are no cut, two pins
-- into one vertex, lists that are no arborescence, a matrix that is too short, a root other than 0 and weights of 0, a
-- budget far below the cheapest total, several cheapest trees. Assumes nothing.
use mathlib.Core.Path.{◌≡◌, refl}
use mathlib.Core.Bool.{true, false, ◌&&◌, not}
use mathlib.Core.List.{List, [], ◌∷◌, map}
use Prim.Native.Nat.{ℕ, suc}
use native.Mathlib.Omega.{arith}
use lib.Dec.{leb}
use borrow.Author.Tests.{leb-true, not-true}
use Rattle.base.specs.Bounded.{all_below, any_below, sum_below}
use Rattle.base.specs.Lists.{tabulate_from, tabulate, select, any_of, all_of}
use Rattle.instance.specs.Limits.{pinned, banned}
use Rattle.instance.specs.Instance.{Instance, weight, mark, can_be_arc, is_arc}
use Rattle.instance.specs.Arborescence.{is_pinned, other_pinned, remaining, if_remaining, each_remaining, reaches, parent_ok, is_arborescence, total, uses}
use Rattle.instance.specs.Candidates.{prefixed, choices, candidates_from, candidates, arborescences, lesser, least_total, cheapest, is_cheapest, cheapest_trees, first_tree}
use Rattle.instance.specs.Cuts.{Cut, cuts_from, cuts_in, inside, enters, charged, values, set_ok, sets_ok, all_positive, Proves, reduced_cost, NoEntry}
use Rattle.instance.specs.declared.Outcome.TheVariants.{Plan, Over}
use Rattle.instance.specs.States.{outcome_at, outcome, fits, fitting, limit_at, total_limit, state_over, state, states}
use Rattle.instance.proofs.WorkedCases.{At, arc, filled, instance_from, instance_q, two, computed}
use Rattle.instance.proofs.ArcLaws.{each_at}

abbrev cut : (set value : ℕ) → Cut
cut c v = record { set = c; value = v }

-- "Cuts that fit P1: {1} 2, {2} 1, {3} 4, {1,2} 5, {1,2,3} 3."
unfoldable pub p1_cuts : List Cut
p1_cuts = cut 2 2 ∷ cut 4 1 ∷ cut 8 4 ∷ cut 6 5 ∷ cut 14 3 ∷ []

p1_covered : each_remaining (instance_q 16 []) (λ t h. leb (charged p1_cuts t h) (weight (instance_q 16 []) t h)) ≡ true
unfolding
    if_remaining each_remaining all_below any_below instance_q instance_from filled weight mark can_be_arc is_arc is_pinned other_pinned remaining inside enters
    charged p1_cuts
p1_covered = refl

p1_sets : sets_ok (instance_q 16 []) p1_cuts ≡ true
unfolding sets_ok set_ok inside instance_q instance_from p1_cuts
p1_sets = refl

pub p1_proves : Proves (instance_q 16 []) p1_cuts 15
unfolding all_positive values p1_cuts instance_q instance_from
p1_proves =
    record {
      feasible =
          record {
            sets = p1_sets;
            covered =
                λ t h r.
                leb-true (charged p1_cuts t h) (weight (instance_q 16 []) t h)
                (each_at (instance_q 16 []) (λ u v. leb (charged p1_cuts u v) (weight (instance_q 16 []) u v)) p1_covered t h r);
          };
      positive = refl;
      few = omega arith;
      adds = refl;
    }

-- the arcs of Q with their reduced costs under those cuts
unfoldable pub p1_reduced : List At
p1_reduced = arc 0 1 0 ∷ arc 0 2 1 ∷ arc 0 3 1 ∷ arc 1 2 0 ∷ arc 1 3 0 ∷ arc 2 1 0 ∷ arc 2 3 5 ∷ arc 3 1 0 ∷ []

pub reduced_costs : map (λ a. reduced_cost (instance_q 15 []) p1_cuts a.tail a.head) p1_reduced ≡ map (λ a. a.is) p1_reduced
unfolding reduced_cost charged enters inside weight instance_q instance_from filled p1_cuts p1_reduced
reduced_costs = refl

-- "in P3, 2→1 has reduced price 0 under the cuts above, yet the cheapest tree with it costs 16": it is closed
pub p3_excluded : state (instance_q 15 []) 2 1 ≡ 1
unfolding
    instance_q instance_from filled all_below any_below sum_below tabulate_from tabulate select any_of all_of weight mark can_be_arc is_arc is_pinned
    other_pinned remaining reaches parent_ok is_arborescence total uses prefixed choices candidates_from candidates arborescences lesser least_total
    cheapest fits fitting limit_at total_limit state_over state
p3_excluded = refl

-- "n = 2, root 0, link banned": "none, cut pair (2, 0)"
banned_shut : each_remaining (two 5 (arc 0 1 banned ∷ [])) (λ t h. not (enters 2 t h)) ≡ true
unfolding
    if_remaining each_remaining all_below any_below two instance_from filled weight mark can_be_arc is_arc is_pinned other_pinned remaining inside enters
banned_shut = refl

pub banned_no_entry : NoEntry (two 5 (arc 0 1 banned ∷ [])) (cut 2 0)
unfolding set_ok inside two instance_from
banned_no_entry =
    record {
      set_good = refl;
      value_zero = refl;
      shut = λ t h r. not-true (enters 2 t h) (each_at (two 5 (arc 0 1 banned ∷ [])) (λ u v. not (enters 2 u v)) banned_shut t h r);
    }

-- .. "with amount 0": a pair of another amount is none
pub other_value : (s : Instance) (c v : ℕ) → NoEntry s (cut c (suc v)) → ⊥
other_value s c v e = omega (arith, e.value_zero)

-- "pairs (set, amount)" of words, so many; the words after them are not read
pub pairs_read : cuts_in 2 (2 ∷ 3 ∷ 12 ∷ 7 ∷ 5 ∷ 9 ∷ []) ≡ cut 2 3 ∷ cut 12 7 ∷ []
unfolding cuts_in cuts_from
pairs_read = refl

-- A SET is no cut if it is empty, has the root, or has a vertex that the instance lacks; {1,2,3} is one
pub sets_judged : map (set_ok (instance_q 16 [])) (0 ∷ 3 ∷ 16 ∷ 14 ∷ []) ≡ false ∷ false ∷ false ∷ true ∷ []
unfolding set_ok inside instance_q instance_from
sets_judged = refl

-- "each amount is at least 1"
pub zero_value : all_positive (cut 2 0 ∷ []) ≡ false
unfolding all_positive
zero_value = refl

-- "Two pins into one position therefore leave it with none": with 0→1 and 2→1 pinned none of 0→1, 2→1, 3→1 remains
pub two_pins : map (λ t. remaining (instance_q 16 (arc 0 1 pinned ∷ arc 2 1 pinned ∷ [])) t 1) (0 ∷ 2 ∷ 3 ∷ []) ≡ false ∷ false ∷ false ∷ []
unfolding any_below instance_q instance_from filled weight mark can_be_arc is_arc is_pinned other_pinned remaining
two_pins = refl

-- a banned arc is an arc that does not remain
pub banned_arc : is_arc (instance_q 16 (arc 0 1 banned ∷ [])) 0 1 && not (remaining (instance_q 16 (arc 0 1 banned ∷ [])) 0 1) ≡ true
unfolding any_below instance_q instance_from filled weight mark can_be_arc is_arc is_pinned other_pinned remaining
banned_arc = refl

-- LISTS: P1's; 255 elsewhere than at the root, something else at the root, too short, too long, a cycle, a vertex that
-- is its own parent, a parent that is no vertex, an arc that is none (3→2)
pub lists_judged :
    map (is_arborescence (instance_q 16 []))
    ((255 ∷ 0 ∷ 1 ∷ 1 ∷ []) ∷ (255 ∷ 0 ∷ 255 ∷ 1 ∷ []) ∷ (0 ∷ 0 ∷ 1 ∷ 1 ∷ []) ∷ (255 ∷ 0 ∷ 1 ∷ []) ∷ (255 ∷ 0 ∷ 1 ∷ 1 ∷ 1 ∷ [])
    ∷ (255 ∷ 2 ∷ 1 ∷ 1 ∷ []) ∷ (255 ∷ 0 ∷ 2 ∷ 1 ∷ []) ∷ (255 ∷ 4 ∷ 1 ∷ 1 ∷ []) ∷ (255 ∷ 0 ∷ 3 ∷ 1 ∷ []) ∷ [])
    ≡ true ∷ false ∷ false ∷ false ∷ false ∷ false ∷ false ∷ false ∷ false ∷ []
unfolding
    all_below any_below instance_q instance_from filled weight mark can_be_arc is_arc is_pinned other_pinned remaining reaches parent_ok is_arborescence
lists_judged = refl

-- "Taking the cheapest feeder everywhere: Q gives 7, with a ring and no console."
pub cheapest_each : total (instance_q 16 []) (255 ∷ 2 ∷ 1 ∷ 1 ∷ []) ≡ 7
unfolding sum_below instance_q instance_from filled weight total
cheapest_each = refl

-- a cell that the list of weights lacks is no arc
pub missing : is_arc (record { n = 2; root = 0; budget = 0; weights = []; marks = [] }) 0 1 ≡ false
unfolding is_arc can_be_arc weight
missing = refl

-- ROOT 2, arcs of weight 0, and cells that can never be an arc (into the root, from a vertex to itself, outside the
-- instance) that hold weights and pins: 2→0 and 0→1 are the only arborescence of total 0; with 2→1 for 0→1 it costs 3;
-- that with 1→0 costs 7
unfoldable pub root_two : Instance
root_two =
    instance_from 3 2 3 (arc 2 0 0 ∷ arc 0 1 0 ∷ arc 2 1 3 ∷ arc 1 0 4 ∷ arc 0 2 7 ∷ arc 1 1 0 ∷ arc 3 1 0 ∷ [])
    (arc 0 2 pinned ∷ arc 1 1 pinned ∷ arc 3 1 pinned ∷ [])

pub root_two_worked : computed root_two ≡ record { gives = Plan 0; parents = 2 ∷ 0 ∷ 255 ∷ []; cheapest_ones = (2 ∷ 0 ∷ 255 ∷ []) ∷ []; shows = 0 ∷ 2 ∷ 0 ∷ 1 ∷ 0 ∷ 0 ∷ 3 ∷ 2 ∷ 0 ∷ [] }
unfolding
    computed root_two instance_from filled all_below any_below sum_below tabulate_from tabulate select any_of all_of weight mark can_be_arc
    is_arc is_pinned other_pinned remaining reaches parent_ok is_arborescence total uses prefixed choices candidates_from candidates arborescences
    lesser least_total cheapest is_cheapest cheapest_trees first_tree outcome_at outcome fits fitting limit_at total_limit state_over states
root_two_worked = refl

-- P6 with a budget of 3: "the states are to be those for a budget equal to the cheapest total" (02, A2), over both
-- cheapest trees; the first is shown
pub p6_over :
    computed (instance_q 3 (arc 0 1 banned ∷ []))
    ≡ record { gives = Over 16; parents = 255 ∷ 2 ∷ 0 ∷ 1 ∷ []; cheapest_ones = (255 ∷ 2 ∷ 0 ∷ 1 ∷ []) ∷ (255 ∷ 3 ∷ 1 ∷ 0 ∷ []) ∷ []; shows = 0 ∷ 1 ∷ 2 ∷ 2 ∷ 0 ∷ 0 ∷ 2 ∷ 2 ∷ 0 ∷ 2 ∷ 0 ∷ 1 ∷ 0 ∷ 2 ∷ 0 ∷ 0 ∷ [] }
unfolding
    computed instance_q instance_from filled all_below any_below sum_below tabulate_from tabulate select any_of all_of weight mark can_be_arc
    is_arc is_pinned other_pinned remaining reaches parent_ok is_arborescence total uses prefixed choices candidates_from candidates arborescences
    lesser least_total cheapest is_cheapest cheapest_trees first_tree outcome_at outcome fits fitting limit_at total_limit state_over states
p6_over = refl

-- THE FIRST OF THE CHEAPEST (02, A10), where the least tail on ties in Algorithm 1 gives another one: 2 0, and 1 2
-- comes before it. With 1→0 a penny dearer 1 2 is still within the budget, and no cheapest tree: 2 0 is shown.
unfoldable pub ties : (weight budget : ℕ) → Instance
ties w b = instance_from 3 2 b (arc 0 1 1 ∷ arc 1 0 w ∷ arc 2 0 2 ∷ arc 2 1 1 ∷ []) []

pub first_worked :
    (computed (ties 2 3) ∷ computed (ties 3 4) ∷ [])
    ≡ record {
      gives = Plan 3;
      parents = 1 ∷ 2 ∷ 255 ∷ [];
      cheapest_ones = (1 ∷ 2 ∷ 255 ∷ []) ∷ (2 ∷ 0 ∷ 255 ∷ []) ∷ (2 ∷ 2 ∷ 255 ∷ []) ∷ [];
      shows = 0 ∷ 2 ∷ 0 ∷ 2 ∷ 0 ∷ 0 ∷ 2 ∷ 2 ∷ 0 ∷ [];
    }
    ∷ record {
      gives = Plan 3;
      parents = 2 ∷ 0 ∷ 255 ∷ [];
      cheapest_ones = (2 ∷ 0 ∷ 255 ∷ []) ∷ (2 ∷ 2 ∷ 255 ∷ []) ∷ [];
      shows = 0 ∷ 2 ∷ 0 ∷ 2 ∷ 0 ∷ 0 ∷ 2 ∷ 2 ∷ 0 ∷ [];
    }
    ∷ []
unfolding
    computed ties instance_from filled all_below any_below sum_below tabulate_from tabulate select any_of all_of weight mark can_be_arc
    is_arc is_pinned other_pinned remaining reaches parent_ok is_arborescence total uses prefixed choices candidates_from candidates arborescences
    lesser least_total cheapest is_cheapest cheapest_trees first_tree outcome_at outcome fits fitting limit_at total_limit state_over states
first_worked = refl
