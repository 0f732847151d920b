-- The vertices of a group as a set. Assumes nothing: these are definitions.
use Rattle.std.specs.Prelude.{◌≡◌, List, ℕ, ◌^◌, ◌<◌, eqb}
use Rattle.instance.specs.Cuts.{inside}
use Rattle.contraction.specs.Cells.{nth}

-- the vertices of group g below a bound, as bits
pub record Members (ls : List ℕ) (bound g set : ℕ) : Type 0 where
  pub below : set < 2 ^ bound
  pub is : (v : ℕ) → v < bound → inside set v ≡ eqb (nth ls v) g
