-- A cycle's groups contracted to one. Assumes nothing: these are definitions.
use Rattle.std.specs.Prelude.{◌≡◌, List, ℕ, ◌<◌}
use Rattle.contraction.specs.Cells.{nth}
use Rattle.contraction.specs.Groups.{contracted}
use Rattle.contraction.specs.Search.{on_cycle}

-- the labels after the groups of the cycle at v have become one
pub record Contracted (ls stamp : List ℕ) (n v : ℕ) (r : List ℕ) : Type 0 where
  pub is : (u : ℕ) → u < n → nth r u ≡ contracted (nth ls) (on_cycle (nth stamp) v) v u
