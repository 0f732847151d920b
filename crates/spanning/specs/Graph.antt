-- A hall whose cable has "one price both ways" (02, A11), as an undirected graph: a run is an edge. Document 01 has
-- "Not in it: .. undirected runs"; A11 amends it: "Add a planner for these". Assumes nothing: these are definitions.
use Rattle.std.specs.Prelude.{Bool, ◌&&◌, not, List, ℕ, ◌+◌, ◌*◌, ltb, eqb, get_or}
use Rattle.instance.specs.Limits.{no_arc, free, pinned, banned}

-- "Prices and marks come as lent lists, n times n each": row by row, with n places in a row. "There is no root."
pub record Graph : Type 0 where
  pub n : ℕ
  pub weights : List ℕ
  pub marks : List ℕ

abbrev pub graph_of : (n : ℕ) → (weights marks : List ℕ) → Graph
graph_of n ws ms = record { n = n; weights = ws; marks = ms }

-- a place that the lists lack is no edge, and free
abbrev pub edge_weight : Graph → (i j : ℕ) → ℕ
edge_weight g i j = get_or g.weights (i * g.n + j) no_arc

abbrev pub edge_mark : Graph → (i j : ℕ) → ℕ
edge_mark g i j = get_or g.marks (i * g.n + j) free

-- an edge (02: a run): between two different vertices, with a price
unfoldable pub is_edge : Graph → (i j : ℕ) → Bool
is_edge g i j = (ltb i g.n && ltb j g.n) && (not (eqb i j) && not (eqb (edge_weight g i j) no_arc))

unfoldable pub is_pinned : Graph → (i j : ℕ) → Bool
is_pinned g i j = is_edge g i j && eqb (edge_mark g i j) pinned

-- not banned
unfoldable pub is_allowed : Graph → (i j : ℕ) → Bool
is_allowed g i j = is_edge g i j && not (eqb (edge_mark g i j) banned)
