-- A hall of passive runs (02, A11) with a pin, a ban, a bridge and a tie, and the same hall with other marks, as one
-- list with one claim about the whole list: each outcome, all states, every cheapest tree and what its edges cost to
-- replace. And the numbers by which faulty halls are refused. Computed. Assumes nothing.
use mathlib.Core.Path.{◌≡◌, refl}
use mathlib.Core.List.{List, [], ◌∷◌, map}
use Prim.Native.Nat.{ℕ}
use Rattle.base.specs.Bounded.{all_below, any_below, sum_below}
use Rattle.base.specs.Lists.{tabulate_from, tabulate, select, any_of, all_of}
use Rattle.instance.specs.Limits.{no_arc}
use Rattle.instance.specs.Instance.{weight, mark, can_be_arc, is_arc}
use Rattle.instance.specs.Arborescence.{other_pinned, remaining, reaches, parent_ok, is_arborescence, total, uses}
use Rattle.instance.specs.Candidates.{prefixed, choices, candidates_from, candidates, lesser, least_total, is_cheapest}
use Rattle.instance.specs.Valid.{cell_ok}
use Rattle.instance.specs.declared.Outcome.{Outcome}
use Rattle.instance.specs.declared.Outcome.TheVariants.{Plan, Over, NoTree}
use Rattle.instance.specs.States.{outcome_at, limit_at}
use Rattle.spanning.specs.Graph.{Graph, graph_of, is_edge, is_pinned, is_allowed}
use Rattle.spanning.specs.Refusal.{same_both_ways, cell_refusal, refusal_from, graph_refusal, room_refusal, call_refusal}
use Rattle.spanning.specs.SpanningTrees.{edge_matrix, joins, keeps_pins, is_spanning, spanning_trees, tree_total, least_spanning}
use Rattle.spanning.specs.EdgeStates.{graph_outcome, spanning_within, edge_state_over, edge_state, edge_states}
use Rattle.spanning.specs.ReplacementCosts.{no_replacement, not_in_tree, spanning_without, increase, replacement_cost, costs_shown}
use Rattle.instance.specs.Arborescence

-- no run; and of the costs: not in the tree, no replacement
abbrev x : ℕ
x = no_arc

abbrev o : ℕ
o = not_in_tree

abbrev z : ℕ
z = no_replacement

-- n = 4. Prices: 0-1 9, 0-2 4, 1-2 4, 1-3 1, 2-3 3; 0-3 is no run.
abbrev hall : (marks : List ℕ) → Graph
hall ms = graph_of 4 (x ∷ 9 ∷ 4 ∷ x ∷ 9 ∷ x ∷ 4 ∷ 1 ∷ 4 ∷ 4 ∷ x ∷ 3 ∷ x ∷ 1 ∷ 3 ∷ x ∷ []) ms

-- 0-1 pinned, 1-3 banned: 2-3 is a bridge, and 0-2 and 1-2 tie
abbrev marked : Graph
marked = hall (0 ∷ 1 ∷ 0 ∷ 0 ∷ 1 ∷ 0 ∷ 0 ∷ 2 ∷ 0 ∷ 0 ∷ 0 ∷ 0 ∷ 0 ∷ 2 ∷ 0 ∷ 0 ∷ [])

-- only 1-3 banned
abbrev with_ban : Graph
with_ban = hall (0 ∷ 0 ∷ 0 ∷ 0 ∷ 0 ∷ 0 ∷ 0 ∷ 2 ∷ 0 ∷ 0 ∷ 0 ∷ 0 ∷ 0 ∷ 2 ∷ 0 ∷ 0 ∷ [])

-- 0-1, 0-2, 1-2 pinned: "Pins that close a ring"
abbrev ring : Graph
ring = hall (0 ∷ 1 ∷ 1 ∷ 0 ∷ 1 ∷ 0 ∷ 1 ∷ 0 ∷ 1 ∷ 1 ∷ 0 ∷ 0 ∷ 0 ∷ 0 ∷ 0 ∷ 0 ∷ [])

-- What is claimed of a hall: its outcome, all states, and all its cheapest trees, listed from vertex 0, with the costs
-- that are shown with each.
pub record Row : Type 0 where
  pub gives : Outcome
  pub shows : List ℕ
  pub cheapest_ones : List (List ℕ)
  pub costs : List (List ℕ)

pub record Case : Type 0 where
  pub of : Graph
  pub budget : ℕ
  pub row : Row

abbrev case : (of : Graph) → (budget : ℕ) → Outcome → (states : List ℕ) → (trees costs : List (List ℕ)) → Case
case g b v ss pss css = record { of = g; budget = b; row = record { gives = v; shows = ss; cheapest_ones = pss; costs = css } }

unfoldable pub cheapest_spanning : Graph → List (List ℕ)
cheapest_spanning g = let w = least_spanning g 0 in select (λ ps. is_cheapest w (tree_total g 0 ps)) (spanning_trees g 0)

unfoldable pub computed : Graph → (budget : ℕ) → Row
computed g b =
    record { gives = graph_outcome g 0 b; shows = edge_states g 0 b; cheapest_ones = cheapest_spanning g; costs = map (costs_shown g 0) (cheapest_spanning g) }

unfoldable pub cases : List Case
cases =
    -- a budget equal to the cheapest total: pin and bridge sure, the tie open, the ban closed. Pin and bridge have no
    -- replacement; the tie has one that costs nothing more.
    case marked 16 (Plan 16) (0 ∷ 3 ∷ 2 ∷ 0 ∷ 3 ∷ 0 ∷ 2 ∷ 1 ∷ 2 ∷ 2 ∷ 0 ∷ 3 ∷ 0 ∷ 1 ∷ 3 ∷ 0 ∷ [])
    ((255 ∷ 0 ∷ 0 ∷ 2 ∷ []) ∷ (255 ∷ 0 ∷ 1 ∷ 2 ∷ []) ∷ [])
    ((o ∷ z ∷ 0 ∷ o ∷ z ∷ o ∷ o ∷ o ∷ 0 ∷ o ∷ o ∷ z ∷ o ∷ o ∷ z ∷ o ∷ []) ∷ (o ∷ z ∷ o ∷ o ∷ z ∷ o ∷ 0 ∷ o ∷ o ∷ 0 ∷ o ∷ z ∷ o ∷ o ∷ z ∷ o ∷ []) ∷ []) ∷
    -- one below it: over, and the same states by "the larger of the budget and the cheapest total"
    case marked 15 (Over 16) (0 ∷ 3 ∷ 2 ∷ 0 ∷ 3 ∷ 0 ∷ 2 ∷ 1 ∷ 2 ∷ 2 ∷ 0 ∷ 3 ∷ 0 ∷ 1 ∷ 3 ∷ 0 ∷ [])
    ((255 ∷ 0 ∷ 0 ∷ 2 ∷ []) ∷ (255 ∷ 0 ∷ 1 ∷ 2 ∷ []) ∷ [])
    ((o ∷ z ∷ 0 ∷ o ∷ z ∷ o ∷ o ∷ o ∷ 0 ∷ o ∷ o ∷ z ∷ o ∷ o ∷ z ∷ o ∷ []) ∷ (o ∷ z ∷ o ∷ o ∷ z ∷ o ∷ 0 ∷ o ∷ o ∷ 0 ∷ o ∷ z ∷ o ∷ o ∷ z ∷ o ∷ []) ∷ []) ∷
    -- without the pin 0-1 replaces 0-2 or 1-2 for 5 more, a total of 16: the states tell a budget of 15 from one of 16,
    -- the costs do not ("budget ignored")
    case with_ban 15 (Plan 11) (0 ∷ 1 ∷ 3 ∷ 0 ∷ 1 ∷ 0 ∷ 3 ∷ 1 ∷ 3 ∷ 3 ∷ 0 ∷ 3 ∷ 0 ∷ 1 ∷ 3 ∷ 0 ∷ []) ((255 ∷ 2 ∷ 0 ∷ 2 ∷ []) ∷ [])
    ((o ∷ o ∷ 5 ∷ o ∷ o ∷ o ∷ 5 ∷ o ∷ 5 ∷ 5 ∷ o ∷ z ∷ o ∷ o ∷ z ∷ o ∷ []) ∷ []) ∷
    case with_ban 16 (Plan 11) (0 ∷ 2 ∷ 2 ∷ 0 ∷ 2 ∷ 0 ∷ 2 ∷ 1 ∷ 2 ∷ 2 ∷ 0 ∷ 3 ∷ 0 ∷ 1 ∷ 3 ∷ 0 ∷ []) ((255 ∷ 2 ∷ 0 ∷ 2 ∷ []) ∷ [])
    ((o ∷ o ∷ 5 ∷ o ∷ o ∷ o ∷ 5 ∷ o ∷ 5 ∷ 5 ∷ o ∷ z ∷ o ∷ o ∷ z ∷ o ∷ []) ∷ []) ∷
    -- none, with the greatest budget: every run is closed
    case ring 4294967295 NoTree (0 ∷ 1 ∷ 1 ∷ 0 ∷ 1 ∷ 0 ∷ 1 ∷ 1 ∷ 1 ∷ 1 ∷ 0 ∷ 1 ∷ 0 ∷ 1 ∷ 1 ∷ 0 ∷ []) [] [] ∷
    -- n = 1: no run at all
    case (graph_of 1 (x ∷ []) (0 ∷ [])) 0 (Plan 0) (0 ∷ []) ((255 ∷ []) ∷ []) ((o ∷ []) ∷ []) ∷ []

-- THE CLAIM
pub worked : map (λ c. computed c.of c.budget) cases ≡ map (λ c. c.row) cases
unfolding
    computed cases cheapest_spanning all_below any_below sum_below tabulate_from tabulate select any_of all_of weight mark can_be_arc is_arc
    Arborescence.is_pinned other_pinned remaining reaches parent_ok is_arborescence total uses prefixed choices candidates_from candidates lesser
    least_total is_cheapest outcome_at limit_at is_edge is_pinned is_allowed edge_matrix joins keeps_pins is_spanning spanning_trees least_spanning
    graph_outcome spanning_within edge_state_over edge_state edge_states spanning_without increase replacement_cost costs_shown
worked = refl

-- Two vertices, what the four cells hold; three, where the first cells and their pairs matter.
pub record Judged : Type 0 where
  pub of : Graph
  pub by : ℕ

abbrev two : (weights marks : List ℕ) → (by : ℕ) → Judged
two ws ms a = record { of = graph_of 2 ws ms; by = a }

abbrev three : (weights : List ℕ) → (by : ℕ) → Judged
three ws a = record { of = graph_of 3 ws (0 ∷ 0 ∷ 0 ∷ 0 ∷ 0 ∷ 0 ∷ 0 ∷ 0 ∷ 0 ∷ []); by = a }

unfoldable pub faulty : List Judged
faulty =
    -- the greatest price, no run, and what is neither
    two (x ∷ 1048574 ∷ 1048574 ∷ x ∷ []) (0 ∷ 2 ∷ 2 ∷ 0 ∷ []) 0 ∷
    two (x ∷ x ∷ x ∷ x ∷ []) (0 ∷ 0 ∷ 0 ∷ 0 ∷ []) 0 ∷
    two (x ∷ 1048576 ∷ 1048576 ∷ x ∷ []) (0 ∷ 0 ∷ 0 ∷ 0 ∷ []) 30 ∷
    -- a mark out of range; "a marked run that has no price"
    two (x ∷ 5 ∷ 5 ∷ x ∷ []) (0 ∷ 3 ∷ 3 ∷ 0 ∷ []) 30 ∷
    two (x ∷ x ∷ x ∷ x ∷ []) (0 ∷ 1 ∷ 1 ∷ 0 ∷ []) 30 ∷
    -- an unequal pair, by price or by mark
    two (x ∷ 5 ∷ 6 ∷ x ∷ []) (0 ∷ 0 ∷ 0 ∷ 0 ∷ []) 31 ∷
    two (x ∷ 5 ∷ 5 ∷ x ∷ []) (0 ∷ 1 ∷ 0 ∷ 0 ∷ []) 31 ∷
    -- 30 before 31 in one cell; a fault of the lower cell alone is an unequal pair, met at the upper one
    two (x ∷ 1048576 ∷ 5 ∷ x ∷ []) (0 ∷ 0 ∷ 0 ∷ 0 ∷ []) 30 ∷
    two (x ∷ 5 ∷ 1048576 ∷ x ∷ []) (0 ∷ 0 ∷ 0 ∷ 0 ∷ []) 31 ∷
    two (x ∷ 5 ∷ 5 ∷ x ∷ []) (0 ∷ 0 ∷ 3 ∷ 0 ∷ []) 31 ∷
    -- the diagonal is not judged
    two (1048576 ∷ 5 ∷ 5 ∷ 0 ∷ []) (1 ∷ 0 ∷ 0 ∷ 3 ∷ []) 0 ∷
    -- the first faulty cell decides, 0-1 before 0-2
    three (x ∷ 5 ∷ 1048576 ∷ 6 ∷ x ∷ 7 ∷ 1048576 ∷ 7 ∷ x ∷ []) 31 ∷
    three (x ∷ 1048576 ∷ 5 ∷ 1048576 ∷ x ∷ 7 ∷ 6 ∷ 7 ∷ x ∷ []) 30 ∷ []

pub refused : map (λ c. graph_refusal c.of) faulty ≡ map (λ c. c.by) faulty
unfolding faulty cell_ok same_both_ways cell_refusal refusal_from graph_refusal
refused = refl

-- "29 for a count outside 1 to 32, then 14", and then the cells
pub refused_first :
    (room_refusal 0 0 0 0 0 ∷ room_refusal 33 0 0 0 0 ∷ room_refusal 32 1024 1024 1024 1024 ∷ room_refusal 2 3 4 4 4 ∷ room_refusal 2 4 3 4 4 ∷
    room_refusal 2 4 4 3 4 ∷ room_refusal 2 4 4 4 3 ∷ call_refusal (graph_of 2 (x ∷ 5 ∷ 6 ∷ x ∷ []) (0 ∷ 0 ∷ 0 ∷ 0 ∷ [])) 4 3 ∷
    call_refusal (graph_of 2 (x ∷ 5 ∷ 6 ∷ x ∷ []) (0 ∷ 0 ∷ 0 ∷ 0 ∷ [])) 4 4 ∷ [])
    ≡ 29 ∷ 29 ∷ 0 ∷ 14 ∷ 14 ∷ 14 ∷ 14 ∷ 14 ∷ 31 ∷ []
unfolding cell_ok same_both_ways cell_refusal refusal_from graph_refusal room_refusal call_refusal
refused_first = refl
