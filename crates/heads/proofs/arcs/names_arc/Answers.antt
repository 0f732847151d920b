-- `names_arc` is the definition, test by test. Assumes nothing.
use Rattle.commands.specs.Heads.{names_arc}
use Rattle.heads.proofs.arcs.names_arc.Goals as goal

pub returns-then-is_inside : goal.returns-then-is_inside
unfolding names_arc
returns-then-is_inside c = rw (← c.is_inside.ensures, c.if-is_inside.true) c.is_arc.ensures

pub returns : goal.returns
unfolding names_arc
returns c = simp (← c.is_inside.ensures, c.if-is_inside.false)
