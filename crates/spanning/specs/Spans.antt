-- Spanning trees that keep some pins, read as statements about all lists of parents, and what exchanging an edge of one
-- gives. Assumes nothing: these are definitions.
use Rattle.std.specs.Prelude.{◌≡◌, Bool, true, false, List, ◌≢◌, ℕ, ◌+◌, ◌≤◌, ◌<◌, eqb}
use Rattle.instance.specs.Instance.{Instance, weight}
use Rattle.instance.specs.Arborescence.{remaining, parent, is_arborescence, total}
use Rattle.spanning.specs.SpanningTrees.{joins}
use Rattle.spanning.specs.EdgeExchange.{SameEdge}
use Rattle.spanning.specs.Crossing.{Separates}

-- a spanning tree with all pinned edges in it
pub record Spans (s : Instance) (pin : (i j : ℕ) → Bool) (parents : List ℕ) : Type 0 where
  pub arborescence : is_arborescence s parents ≡ true
  pub keeps : (i j : ℕ) → pin i j ≡ true → joins parents i j ≡ true

-- none is cheaper
pub record Cheapest (s : Instance) (pin : (i j : ℕ) → Bool) (parents : List ℕ) : Type 0 where
  pub spans : Spans s pin parents
  pub least : (qs : List ℕ) → Spans s pin qs → total s parents ≤ total s qs

-- an edge between i and j: the arcs that it can be
pub record Linked (s : Instance) (i j : ℕ) : Type 0 where
  pub i_below : i < s.n
  pub j_below : j < s.n
  pub down : eqb j s.root ≡ false → remaining s i j ≡ true
  pub up : eqb i s.root ≡ false → remaining s j i ≡ true

-- the edge from v to its parent taken out for the one between i and j
pub record Replaced (s : Instance) (pin : (i j : ℕ) → Bool) (parents : List ℕ) (v i j : ℕ) : Type 0 where
  pub made : List ℕ
  pub spans : Spans s pin made
  pub joined : joins made i j ≡ true
  pub cost : total s made + weight s (parent parents v) v ≡ total s parents + weight s i j
  pub gone : (SameEdge i j (parent parents v) v → ⊥) → joins made (parent parents v) v ≡ false

-- an edge of the tree on its path between i and j, without a pin: a tree of total c that has the edge between i and j
-- costs no less than to replace it
pub record LeastWith (s : Instance) (pin : (i j : ℕ) → Bool) (parents : List ℕ) (i j c : ℕ) : Type 0 where
  pub v : ℕ
  pub below : v < s.n
  pub apart : v ≢ s.root
  pub separates : Separates parents v i j
  pub unpinned : pin (parent parents v) v ≡ false
  pub cost : total s parents + weight s i j ≤ c + weight s (parent parents v) v

-- an edge between i and j that reconnects the two sides of the tree's edge from v to its parent, which has no pin: a
-- tree of total c without that edge costs no less than to replace it
pub record LeastWithout (s : Instance) (pin : (i j : ℕ) → Bool) (parents : List ℕ) (v c : ℕ) : Type 0 where
  pub i : ℕ
  pub j : ℕ
  pub linked : Linked s i j
  pub separates : Separates parents v i j
  pub unpinned : pin (parent parents v) v ≡ false
  pub other : SameEdge i j (parent parents v) v → ⊥
  pub cost : total s parents + weight s i j ≤ c + weight s (parent parents v) v

-- c is the least that a spanning tree without the edge costs more than the tree does
pub record CheapestWithout (s : Instance) (pin : (i j : ℕ) → Bool) (parents : List ℕ) (i j c : ℕ) : Type 0 where
  pub made : List ℕ
  pub spans : Spans s pin made
  pub lacks : joins made i j ≡ false
  pub cost : total s made ≡ total s parents + c
  pub least : (qs : List ℕ) → Spans s pin qs → joins qs i j ≡ false → total s made ≤ total s qs
