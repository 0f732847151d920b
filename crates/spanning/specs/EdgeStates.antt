-- The outcome of a graph, and the state of each edge (02, A11). Assumes nothing: these are definitions.
use Rattle.std.specs.Prelude.{◌&&◌, cond, List, ℕ, ◌*◌, ◌/◌, ◌%◌, leb}
use Rattle.base.specs.Lists.{tabulate, select, any_of, all_of}
use Rattle.instance.specs.declared.Outcome.{Outcome}
use Rattle.instance.specs.Candidates.{candidates}
use Rattle.instance.specs.States.{outcome_at, limit_at}
use Rattle.spanning.specs.Graph.{Graph, is_edge}
use Rattle.spanning.specs.SpanningTrees.{directed, joins, is_spanning, tree_total, least_spanning}

-- "outcome and total as a look yields them"; "the budget as any 32-bit number"
unfoldable pub graph_outcome : Graph → (r budget : ℕ) → Outcome
graph_outcome g r b = outcome_at b (least_spanning g r)

-- "trees within the larger of the budget and the cheapest total"
unfoldable pub spanning_within : Graph → (r budget : ℕ) → List (List ℕ)
spanning_within g r b =
    let limit = limit_at b (least_spanning g r) in select (λ ps. is_spanning g r ps && leb (tree_total g r ps) limit) (candidates (directed g r))

-- "states by the same four codes": no edge; excluded, optional, mandatory, over a list of trees
unfoldable pub edge_state_over : List (List ℕ) → Graph → (i j : ℕ) → ℕ
edge_state_over pss g i j =
    cond (is_edge g i j) (cond (any_of (λ ps. joins ps i j) pss) (cond (all_of (λ ps. joins ps i j) pss) 3 2) 1) 0

unfoldable pub edge_state : Graph → (r budget i j : ℕ) → ℕ
edge_state g r b i j = edge_state_over (spanning_within g r b) g i j

-- "States .. fill the first n times n places"
unfoldable pub edge_states : Graph → (r budget : ℕ) → List ℕ
edge_states g r b = tabulate (g.n * g.n) (λ k. edge_state g r b (k / g.n) (k % g.n))
