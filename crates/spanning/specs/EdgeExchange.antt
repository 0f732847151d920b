-- Exchanging one edge of a spanning tree for another. Assumes nothing: these are definitions.
use Rattle.std.specs.Prelude.{◌≡◌, true, false, List, ◌⊎◌, ℕ, ◌+◌, ◌<◌, eqb}
use Rattle.instance.specs.Instance.{Instance, weight}
use Rattle.instance.specs.Arborescence.{remaining, parent, is_arborescence, total}
use Rattle.paths.specs.Paths.{Avoids}
use Rattle.spanning.specs.SpanningTrees.{joins}

-- each arc that does not leave the root is there the other way too, and both ways weigh the same
pub record BothWays (s : Instance) : Type 0 where
  pub arcs : (t h : ℕ) → remaining s t h ≡ true → eqb t s.root ≡ false → remaining s h t ≡ true
  pub weights : (t h : ℕ) → t < s.n → h < s.n → weight s h t ≡ weight s t h

-- the same two ends
abbrev pub SameEdge : (i j a b : ℕ) → Type 0
SameEdge i j a b = ((i ≡ a) × (j ≡ b)) ⊎ ((i ≡ b) × (j ≡ a))

-- the edge from h to its parent taken out of a tree, and the one between u and v put in: u is now v's parent. What was
-- no descendant of h has the parent that it had.
pub record EdgeExchange (s : Instance) (parents : List ℕ) (u v h : ℕ) : Type 0 where
  pub made : List ℕ
  pub arborescence : is_arborescence s made ≡ true
  pub has : parent made v ≡ u
  pub outside : (x : ℕ) → Avoids parents h x → parent made x ≡ parent parents x
  pub cost : total s made + weight s (parent parents h) h ≡ total s parents + weight s u v
  pub only : (i j : ℕ) → joins made i j ≡ true → (joins parents i j ≡ true) ⊎ SameEdge i j u v
  pub still : (i j : ℕ) → joins parents i j ≡ true → (joins made i j ≡ true) ⊎ SameEdge i j (parent parents h) h
  pub gone : (SameEdge u v (parent parents h) h → ⊥) → joins made (parent parents h) h ≡ false
