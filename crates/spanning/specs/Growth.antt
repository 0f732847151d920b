-- A spanning tree grown from vertex 0, edge by edge (Prim's algorithm), with no program: S says which vertices are in
-- the tree so far. Assumes nothing: these are definitions.
use Rattle.std.specs.Prelude.{◌≡◌, Bool, true, false, List, ◌≢◌, ℕ, ◌≤◌, ◌<◌}
use Rattle.instance.specs.Limits.{no_parent}
use Rattle.instance.specs.Arborescence.{parent, total}
use Rattle.paths.specs.Paths.{Descends}
use Rattle.spanning.specs.Graph.{Graph, is_pinned, is_allowed}
use Rattle.spanning.specs.SpanningTrees.{directed}
use Rattle.spanning.specs.Spans.{Spans}
use Rattle.spanning.specs.Keys.{edge_key}

-- a spanning tree that is no dearer than another and has the parents of the tree so far
pub record Agrees (g : Graph) (S : ℕ → Bool) (parents : List ℕ) (qs : List ℕ) : Type 0 where
  pub made : List ℕ
  pub spans : Spans (directed g 0) (is_pinned g) made
  pub cost : total (directed g 0) made ≤ total (directed g 0) qs
  pub same : (v : ℕ) → v < g.n → S v ≡ true → parent made v ≡ parent parents v

-- the tree so far: whatever spanning tree there is, one that is no dearer has its parents
pub record Grown (g : Graph) (S : ℕ → Bool) (parents : List ℕ) : Type 0 where
  pub root_in : S 0 ≡ true
  pub at_root : parent parents 0 ≡ no_parent
  pub closed : (v : ℕ) → v < g.n → S v ≡ true → v ≢ 0 → (S (parent parents v) ≡ true) × (is_allowed g (parent parents v) v ≡ true)
  pub reach : (v : ℕ) → v < g.n → S v ≡ true → Descends parents 0 v
  pub agrees : (qs : List ℕ) → Spans (directed g 0) (is_pinned g) qs → Agrees g S parents qs

-- outside the tree a parent is a vertex of the tree that is nearest by key
pub record Nearest (g : Graph) (S : ℕ → Bool) (parents : List ℕ) (v : ℕ) : Type 0 where
  pub tail_in : S (parent parents v) ≡ true
  pub tail_below : parent parents v < g.n
  pub least : (u : ℕ) → u < g.n → S u ≡ true → edge_key g (parent parents v) v ≤ edge_key g u v

abbrev pub AllNearest : (g : Graph) → (S : ℕ → Bool) → (parents : List ℕ) → Type 0
AllNearest g S ps = (v : ℕ) → v < g.n → S v ≡ false → Nearest g S ps v

-- v is outside and none outside is nearer
pub record Next (g : Graph) (S : ℕ → Bool) (parents : List ℕ) (v : ℕ) : Type 0 where
  pub below : v < g.n
  pub out : S v ≡ false
  pub least : (w : ℕ) → w < g.n → S w ≡ false → edge_key g (parent parents v) v ≤ edge_key g (parent parents w) w
