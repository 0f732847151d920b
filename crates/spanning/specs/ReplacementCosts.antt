-- Replacement costs of edges (02, A11: replacement prices). Assumes nothing: these are definitions.
use Rattle.std.specs.Prelude.{◌&&◌, not, cond, List, ℕ, ◌*◌, ◌-◌, ◌/◌, ◌%◌}
use Rattle.std.proofs.Math.Option.{Option, none, some}
use Rattle.base.specs.Lists.{tabulate, select}
use Rattle.instance.specs.Candidates.{candidates, least_total}
use Rattle.spanning.specs.Graph.{Graph}
use Rattle.spanning.specs.SpanningTrees.{directed, joins, is_spanning, least_spanning}

-- "4,294,967,295 if there is none or the run is pinned"; "4,294,967,294 for whatever is not in the tree"
abbrev pub no_replacement : ℕ
no_replacement = 4294967295

abbrev pub not_in_tree : ℕ
not_in_tree = 4294967294

-- the spanning trees without the edge. All of them keep "other marks", and none is without a pinned edge.
unfoldable pub spanning_without : Graph → (r i j : ℕ) → List (List ℕ)
spanning_without g r i j = select (λ ps. is_spanning g r ps && not (joins ps i j)) (candidates (directed g r))

-- from the cheapest total to another
unfoldable pub increase : (least other : Option ℕ) → ℕ
increase none other = no_replacement
increase (some v) none = no_replacement
increase (some v) (some w) = w - v

-- "the cheapest price increase of a tree without it, with other marks kept and budget ignored"
unfoldable pub replacement_cost : Graph → (r i j : ℕ) → ℕ
replacement_cost g r i j = increase (least_spanning g r) (least_total (directed g r) (spanning_without g r i j))

-- "for each run in the tree its replacement price", "both ways alike", and "4,294,967,294 for whatever is not in the
-- tree"
unfoldable pub costs_shown : Graph → (r : ℕ) → (tree : List ℕ) → List ℕ
costs_shown g r tree = tabulate (g.n * g.n) (λ k. cond (joins tree (k / g.n) (k % g.n)) (replacement_cost g r (k / g.n) (k % g.n)) not_in_tree)
