-- `weight_into` adds nothing for the root, and else the weight of the arc into v. Assumes nothing.
use Rattle.instance.specs.Instance.{weight}
use Rattle.instance.specs.Limits.{no_parent}
use Rattle.instance.specs.Matrix.{unmarked}
use Rattle.base.proofs.ListLaws.{default}
use borrow.Author.Tests.{ne_eqb}
use Rattle.listing_text.proofs.trees.weight_into.Goals as goal

pub returns : goal.returns
unfolding weight unmarked
returns c = rw (ne_eqb _ _ c.if-v-root.false, ← default c.args.parents.now c.args.v 0 no_parent c.requires.v_in_bounds) c.listed_weight.ensures
