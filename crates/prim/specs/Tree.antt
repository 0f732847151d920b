-- What the search finds, and its total. Assumes nothing: these are definitions.
use Rattle.std.specs.Prelude.{◌≡◌, Bool, true, ◌&&◌, not, cond, List, ◌≢◌, ℕ, Option, None, Some, ◌+◌, ◌*◌, ◌≤◌, ◌<◌, eqb, length, get_or, take}
use Rattle.instance.specs.Limits.{max_vertices, no_arc}
use Rattle.spanning.specs.Graph.{Graph, is_pinned}
use Rattle.spanning.specs.SpanningTrees.{directed, joins}
use Rattle.spanning.specs.Spans.{Cheapest}
use Rattle.spanning.specs.KeyTables.{key_at, KeysOf}
use Rattle.prim.specs.Growth.{NoneSpans}

-- a tree has the edge between i and j, if its key is 0
unfoldable pub zero_at : (keys parents : List ℕ) → (i j : ℕ) → Bool
zero_at ks ps i j = cond (not (eqb i j) && eqb (key_at ks i j) 0) (joins ps i j) true

pub record FoundTree (keys : List ℕ) (n : ℕ) (parents : List ℕ) : Type 0 where
  pub places : length parents ≡ max_vertices
  pub cheapest : (g : Graph) → KeysOf g n keys → Cheapest (directed g 0) (is_pinned g) (take n parents)

-- a cheapest spanning tree of each graph with these keys; or none has a spanning tree
abbrev pub Finds : (keys : List ℕ) → (n : ℕ) → Option (List ℕ) → Type 0
Finds ks n None = NoneSpans ks n
Finds ks n (Some ps) = FoundTree ks n ps

-- what the edge from v to its parent costs, with the weights n by n
unfoldable pub edge_cost : (weights parents : List ℕ) → (n v : ℕ) → ℕ
edge_cost ws ps n v = cond (eqb v 0) 0 (get_or ws (get_or ps v 0 * n + v) 0)

-- each vertex but 0 has a parent, at a price
pub record Summable (weights parents : List ℕ) (n : ℕ) : Type 0 where
  pub small : n ≤ max_vertices
  pub size : n * n ≤ length weights
  pub places : length parents ≡ max_vertices
  pub tail : (v : ℕ) → v < n → v ≢ 0 → get_or parents v 0 < n
  pub cost : (v : ℕ) → v < n → v ≢ 0 → edge_cost weights parents n v ≤ no_arc
