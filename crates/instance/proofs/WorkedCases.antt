-- P1 to P10 of document 01 ("Sheet Q and its outcomes"), P4 and P10 as 02, A2 amends them, as one list with one claim
-- about the whole list: each outcome, the list of parents that is shown, every cheapest one, and all states. Computed.
-- Assumes nothing.
use mathlib.Core.Path.{◌≡◌, refl}
use mathlib.Core.List.{List, [], ◌∷◌, map}
use Prim.Native.Nat.{ℕ}
use lib.ListN.{length, replicate, set}
use Rattle.base.specs.Bounded.{all_below, any_below, sum_below}
use Rattle.base.specs.Lists.{tabulate_from, tabulate, select, any_of, all_of}
use Rattle.instance.specs.Limits.{no_arc, pinned, banned, free, cells}
use Rattle.instance.specs.Instance.{Instance, cell, weight, mark, can_be_arc, is_arc}
use Rattle.instance.specs.Arborescence.{is_pinned, other_pinned, remaining, reaches, parent_ok, is_arborescence, total, uses}
use Rattle.instance.specs.Candidates.{prefixed, choices, candidates_from, candidates, arborescences, lesser, least_total, cheapest, is_cheapest, cheapest_trees, first_tree}
use Rattle.instance.specs.declared.Outcome.{Outcome}
use Rattle.instance.specs.declared.Outcome.TheVariants.{Plan, Over, NoTree}
use Rattle.instance.specs.States.{outcome_at, outcome, fits, fitting, limit_at, total_limit, state_over, states}

-- an arc with its weight, or its mark
pub record At : Type 0 where
  pub tail : ℕ
  pub head : ℕ
  pub is : ℕ

abbrev pub arc : (tail head is : ℕ) → At
arc t h x = record { tail = t; head = h; is = x }

-- 1,024 cells that hold one number but for those named
unfoldable pub filled : (other : ℕ) → List At → List ℕ
filled d [] = replicate cells d
filled d (a ∷ xs) = set (filled d xs) (cell a.tail a.head) a.is

unfoldable pub instance_from : (n root budget : ℕ) → (weights marks : List At) → Instance
instance_from n r b ws ms = record { n = n; root = r; budget = b; weights = filled no_arc ws; marks = filled free ms }

-- "n = 4, root 0. Prices: 0→1 10, 0→2 10, 0→3 8, 1→2 1, 1→3 4, 2→1 2, 2→3 9, 3→1 7; 3→2 is no link."
unfoldable pub instance_q : (budget : ℕ) → (marks : List At) → Instance
instance_q b ms =
    instance_from 4 0 b (arc 0 1 10 ∷ arc 0 2 10 ∷ arc 0 3 8 ∷ arc 1 2 1 ∷ arc 1 3 4 ∷ arc 2 1 2 ∷ arc 2 3 9 ∷ arc 3 1 7 ∷ []) ms

-- "n = 2, price 5"
unfoldable pub two : (budget : ℕ) → (marks : List At) → Instance
two b ms = instance_from 2 0 b (arc 0 1 5 ∷ []) ms

-- What is claimed of an instance: its outcome, the parents that are shown with it, the parents of all its cheapest
-- arborescences, and all states. Where one list is among these, document 01's parents are the only cheapest ones.
pub record Row : Type 0 where
  pub gives : Outcome
  pub parents : List ℕ
  pub cheapest_ones : List (List ℕ)
  pub shows : List ℕ

pub record Case : Type 0 where
  pub of : Instance
  pub row : Row

unfoldable pub computed : Instance → Row
computed s = record { gives = outcome s; parents = first_tree s; cheapest_ones = cheapest_trees s; shows = states s }

-- for every budget b of P7
unfoldable pub cases : (b : ℕ) → List Case
cases b =
    -- P1, P2: 2→3 closed, the other seven open
    record { of = instance_q 16 []; row = record { gives = Plan 15; parents = 255 ∷ 0 ∷ 1 ∷ 1 ∷ []; cheapest_ones = (255 ∷ 0 ∷ 1 ∷ 1 ∷ []) ∷ []; shows = 0 ∷ 2 ∷ 2 ∷ 2 ∷ 0 ∷ 0 ∷ 2 ∷ 2 ∷ 0 ∷ 2 ∷ 0 ∷ 1 ∷ 0 ∷ 2 ∷ 0 ∷ 0 ∷ [] } } ∷
    -- P3: 0→1, 1→2, 1→3 sure, others closed
    record { of = instance_q 15 []; row = record { gives = Plan 15; parents = 255 ∷ 0 ∷ 1 ∷ 1 ∷ []; cheapest_ones = (255 ∷ 0 ∷ 1 ∷ 1 ∷ []) ∷ []; shows = 0 ∷ 3 ∷ 1 ∷ 1 ∷ 0 ∷ 0 ∷ 3 ∷ 3 ∷ 0 ∷ 1 ∷ 0 ∷ 1 ∷ 0 ∷ 1 ∷ 0 ∷ 0 ∷ [] } } ∷
    -- P4: over 15. "Case P4 then has the states of P3" (02, A2), and its tree
    record { of = instance_q 14 []; row = record { gives = Over 15; parents = 255 ∷ 0 ∷ 1 ∷ 1 ∷ []; cheapest_ones = (255 ∷ 0 ∷ 1 ∷ 1 ∷ []) ∷ []; shows = 0 ∷ 3 ∷ 1 ∷ 1 ∷ 0 ∷ 0 ∷ 3 ∷ 3 ∷ 0 ∷ 1 ∷ 0 ∷ 1 ∷ 0 ∷ 1 ∷ 0 ∷ 0 ∷ [] } } ∷
    -- P5: 2→1 pinned: all three sure
    record { of = instance_q 16 (arc 2 1 pinned ∷ []); row = record { gives = Plan 16; parents = 255 ∷ 2 ∷ 0 ∷ 1 ∷ []; cheapest_ones = (255 ∷ 2 ∷ 0 ∷ 1 ∷ []) ∷ []; shows = 0 ∷ 1 ∷ 3 ∷ 1 ∷ 0 ∷ 0 ∷ 1 ∷ 3 ∷ 0 ∷ 3 ∷ 0 ∷ 1 ∷ 0 ∷ 1 ∷ 0 ∷ 0 ∷ [] } } ∷
    -- P6: 0→1 banned: 2→3 and 0→1 closed, six open; of two cheapest trees the first is shown
    record { of = instance_q 16 (arc 0 1 banned ∷ []); row = record { gives = Plan 16; parents = 255 ∷ 2 ∷ 0 ∷ 1 ∷ []; cheapest_ones = (255 ∷ 2 ∷ 0 ∷ 1 ∷ []) ∷ (255 ∷ 3 ∷ 1 ∷ 0 ∷ []) ∷ []; shows = 0 ∷ 1 ∷ 2 ∷ 2 ∷ 0 ∷ 0 ∷ 2 ∷ 2 ∷ 0 ∷ 2 ∷ 0 ∷ 1 ∷ 0 ∷ 2 ∷ 0 ∷ 0 ∷ [] } } ∷
    -- P7: 2→1 and 1→2 pinned: none, and no budget is named
    record { of = instance_q b (arc 2 1 pinned ∷ arc 1 2 pinned ∷ []); row = record { gives = NoTree; parents = 255 ∷ 255 ∷ 255 ∷ 255 ∷ []; cheapest_ones = []; shows = 0 ∷ 1 ∷ 1 ∷ 1 ∷ 0 ∷ 0 ∷ 1 ∷ 1 ∷ 0 ∷ 1 ∷ 0 ∷ 1 ∷ 0 ∷ 1 ∷ 0 ∷ 0 ∷ [] } } ∷
    -- P8: n = 1, budget 0
    record { of = instance_from 1 0 0 [] []; row = record { gives = Plan 0; parents = 255 ∷ []; cheapest_ones = (255 ∷ []) ∷ []; shows = 0 ∷ [] } } ∷
    -- P9: link sure
    record { of = two 5 []; row = record { gives = Plan 5; parents = 255 ∷ 0 ∷ []; cheapest_ones = (255 ∷ 0 ∷ []) ∷ []; shows = 0 ∷ 3 ∷ 0 ∷ 0 ∷ [] } } ∷
    -- P10: over 5, and the states of P9
    record { of = two 4 []; row = record { gives = Over 5; parents = 255 ∷ 0 ∷ []; cheapest_ones = (255 ∷ 0 ∷ []) ∷ []; shows = 0 ∷ 3 ∷ 0 ∷ 0 ∷ [] } } ∷ []

-- THE CLAIM
pub worked : (b : ℕ) → map (λ c. computed c.of) (cases b) ≡ map (λ c. c.row) (cases b)
unfolding
    computed cases instance_q two instance_from filled all_below any_below sum_below tabulate_from tabulate select any_of all_of
    weight mark can_be_arc is_arc is_pinned other_pinned remaining reaches parent_ok is_arborescence total uses prefixed choices candidates_from
    candidates arborescences lesser least_total cheapest is_cheapest cheapest_trees first_tree outcome_at outcome fits fitting limit_at
    total_limit state_over states
worked b = refl

-- "It has 12 feed trees."
pub twelve : length (arborescences (instance_q 16 [])) ≡ 12
unfolding
    instance_q instance_from filled all_below any_below tabulate_from tabulate select weight mark can_be_arc is_arc is_pinned other_pinned remaining
    reaches parent_ok is_arborescence prefixed choices candidates_from candidates arborescences
twelve = refl
