-- Keys of edges, which order them for the search: pinned ones first, banned ones and what is no edge last; and what the
-- search finds about a tree in terms of keys. Assumes nothing: these are definitions.
use Rattle.std.specs.Prelude.{◌≡◌, true, cond, List, ◌≢◌, ℕ, ◌+◌, ◌-◌, ◌≤◌, ◌<◌, eqb}
use Rattle.instance.specs.Limits.{pinned, banned}
use Rattle.instance.specs.Arborescence.{parent}
use Rattle.paths.specs.Paths.{Descends, Avoids}
use Rattle.spanning.specs.Graph.{Graph, edge_weight, edge_mark, is_allowed}
use Rattle.spanning.specs.EdgeExchange.{SameEdge}
use Rattle.spanning.specs.Crossing.{Separates}
use Rattle.spanning.specs.ReplacementCosts.{no_replacement}

-- one more than "no arc", and so the key of what is no edge and has no mark
abbrev pub no_key : ℕ
no_key = 1048576

unfoldable pub edge_key : Graph → (i j : ℕ) → ℕ
edge_key g i j = cond (eqb (edge_mark g i j) pinned) 0 (cond (eqb (edge_mark g i j) banned) no_key (edge_weight g i j + 1))

-- c is the least key of an edge that reconnects the two sides of the tree's edge from v to its parent, or no_key
pub record LeastCrossing (g : Graph) (parents : List ℕ) (v c : ℕ) : Type 0 where
  pub most : c ≤ no_key
  pub least : (i j : ℕ) → is_allowed g i j ≡ true → Avoids parents v i → Descends parents v j → (SameEdge i j (parent parents v) v → ⊥) → c ≤ edge_key g i j
  pub attained : c < no_key →
      (i : ℕ) × (j : ℕ) × (is_allowed g i j ≡ true) × Avoids parents v i × Descends parents v j × (SameEdge i j (parent parents v) v → ⊥) × (edge_key g i j ≡ c)

-- d is the greatest key of an edge on the tree's path between i and j: 0 where all of them are pinned
pub record GreatestBetween (g : Graph) (root : ℕ) (parents : List ℕ) (i j d : ℕ) : Type 0 where
  pub greatest : (v : ℕ) → v < g.n → v ≢ root → Separates parents v i j → edge_key g (parent parents v) v ≤ d
  pub attained : d ≢ 0 → (v : ℕ) × (v < g.n) × (v ≢ root) × Separates parents v i j × (edge_key g (parent parents v) v ≡ d)

-- the replacement cost of an edge by its own key and that least key
unfoldable pub cost_by : (own least : ℕ) → ℕ
cost_by k c = cond (eqb k 0) no_replacement (cond (eqb c no_key) no_replacement (c - k))
