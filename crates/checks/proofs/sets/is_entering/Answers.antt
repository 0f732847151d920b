-- `is_entering` is the definition: the tail outside, the head inside. Assumes nothing.
use mathlib.Core.Path.{sym, ap, ◌∙◌}
use mathlib.Core.Bool.{not}
use Rattle.instance.specs.Cuts.{enters}
use Rattle.checks.proofs.sets.is_entering.Goals as goal

pub returns-then-not-is_inside : goal.returns-then-not-is_inside
unfolding enters
returns-then-not-is_inside c = let e = sym c.is_inside.ensures ∙ c.if-not-is_inside.true in rw e c.is_inside-then-not-is_inside.ensures

pub returns-else-not-is_inside : goal.returns-else-not-is_inside
unfolding enters
returns-else-not-is_inside c = let e = sym c.is_inside.ensures ∙ c.if-not-is_inside.false in rw e (ap not c.if-not-is_inside.false)
