-- The descendants of a vertex in a tree, as a table. Assumes nothing: these are definitions.
use Rattle.std.specs.Prelude.{◌≡◌, Bool, true, false, List, ℕ, ◌<◌, get_or}
use Rattle.paths.specs.Paths.{Descends, Avoids}

-- whether v is a descendant of h
pub record DescendantFlag (parents : List ℕ) (h v : ℕ) (flag : Bool) : Type 0 where
  pub under : flag ≡ true → Descends parents h v
  pub apart : flag ≡ false → Avoids parents h v

pub record Descendants (parents : List ℕ) (bound h : ℕ) (table : List Bool) : Type 0 where
  pub at : (v : ℕ) → v < bound → DescendantFlag parents h v (get_or table v false)
