-- What the edges of a tree cost to replace, by keys. Assumes nothing: these are definitions.
use Rattle.std.specs.Prelude.{◌≡◌, cond, List, ℕ, ◌<◌, eqb, get_or}
use Rattle.instance.specs.Arborescence.{parent}
use Rattle.spanning.specs.Keys.{cost_by}
use Rattle.spanning.specs.KeyTables.{key_at, least_crossing}

-- of the edge from v to its parent; vertex 0 has none
unfoldable pub cost_of : (keys : List ℕ) → (n : ℕ) → (parents : List ℕ) → (v : ℕ) → ℕ
cost_of ks n ps v = cond (eqb v 0) 0 (cost_by (key_at ks (parent ps v) v) (least_crossing ks n ps v))

-- the costs of the vertices below a bound, in a list
abbrev pub Costs : (keys : List ℕ) → (n : ℕ) → (parents : List ℕ) → (bound : ℕ) → (costs : List ℕ) → Type 0
Costs ks n ps bound cs = (v : ℕ) → v < bound → get_or cs v 0 ≡ cost_of ks n ps v
