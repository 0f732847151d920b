-- The spanning trees of a graph that keep its pins and bans, and their least total (02, A11). A tree is listed as the
-- arborescence that leads away from a vertex r, by the listing of `instance`. Where it starts does not matter:
-- `rooted_anywhere` (proofs: AnywhereLaws). Assumes nothing: these are definitions.
use Rattle.std.specs.Prelude.{Bool, true, ◌&&◌, ◌||◌, cond, List, ℕ, ◌*◌, ◌/◌, ◌%◌}
use Rattle.std.proofs.Math.Option.{Option}
use Rattle.base.specs.Bounded.{all_below}
use Rattle.base.specs.Lists.{tabulate, select}
use Rattle.instance.specs.Limits.{no_arc, cells}
use Rattle.instance.specs.Instance.{Instance}
use Rattle.instance.specs.Arborescence.{is_arborescence, total, uses}
use Rattle.instance.specs.Candidates.{candidates, least_total}
use Rattle.instance.specs.Matrix.{matrix_instance}
use Rattle.spanning.specs.Graph.{Graph, edge_weight, is_pinned, is_allowed}

-- the edges that are not banned, each as two arcs
unfoldable pub edge_matrix : Graph → List ℕ
edge_matrix g = tabulate cells (λ c. cond (is_allowed g (c / 32) (c % 32)) (edge_weight g (c / 32) (c % 32)) no_arc)

abbrev pub directed : Graph → (r : ℕ) → Instance
directed g r = matrix_instance g.n r 0 (edge_matrix g)

-- a tree has the edge between i and j, which are below n, whichever way it leads there
unfoldable pub joins : (parents : List ℕ) → (i j : ℕ) → Bool
joins ps i j = uses ps i j || uses ps j i

-- "pins .. kept"
unfoldable pub keeps_pins : Graph → (parents : List ℕ) → Bool
keeps_pins g ps = all_below (g.n * g.n) (λ k. cond (is_pinned g (k / g.n) (k % g.n)) (joins ps (k / g.n) (k % g.n)) true)

-- "a .. spanning tree of the runs, pins and bans kept"
unfoldable pub is_spanning : Graph → (r : ℕ) → (parents : List ℕ) → Bool
is_spanning g r ps = is_arborescence (directed g r) ps && keeps_pins g ps

unfoldable pub spanning_trees : Graph → (r : ℕ) → List (List ℕ)
spanning_trees g r = select (is_spanning g r) (candidates (directed g r))

abbrev pub tree_total : Graph → (r : ℕ) → (parents : List ℕ) → ℕ
tree_total g r ps = total (directed g r) ps

-- the total of "a cheapest spanning tree", or none where there is no spanning tree: "Pins that close a ring give none."
unfoldable pub least_spanning : Graph → (r : ℕ) → Option ℕ
least_spanning g r = least_total (directed g r) (spanning_trees g r)
