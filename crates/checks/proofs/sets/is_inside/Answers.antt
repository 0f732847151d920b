-- `is_inside` is the definition: a shift divides. Assumes nothing.
use mathlib.Core.Path.{refl}
use Rattle.instance.specs.Cuts.{inside}
use Rattle.checks.proofs.sets.is_inside.Goals as goal

pub returns : goal.returns
unfolding inside
returns c = refl
