-- `is_below` is the definition: nothing is left when the bits below n are shifted out. Assumes nothing.
use Rattle.instance.proofs.SetBits.{shifted_below}
use Rattle.checks.proofs.sets.is_below.Goals as goal

pub returns : goal.returns
returns c = shifted_below c.args.n c.args.set
