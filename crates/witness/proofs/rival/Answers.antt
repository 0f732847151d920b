-- The tails are passed upwards. The invariant: those from here on decide. Assumes nothing.
use mathlib.Core.Path.{sym, ◌∙◌}
use native.Mathlib.Omega.{arith}
use Rattle.witness.proofs.RivalLaws.{least_here, least_past, least_end, rival_from}
use Rattle.witness.proofs.rival.Goals as goal

pub loop-other-init : goal.loop-other-init
loop-other-init c = (omega arith, rival_from _ _ _)

pub returns-then-is_rival_tail-clause-some : goal.returns-then-is_rival_tail-clause-some
returns-then-is_rival_tail-clause-some c =
    let l = c.loop-other in
    (sym (l.invariant.1 ∙ least_here _ _ l.other c.loop-other-test.true (sym c.is_rival_tail.ensures ∙ c.if-is_rival_tail.true)), c.loop-other-test.true)

pub loop-other-preserved : goal.loop-other-preserved
loop-other-preserved c =
    let l = c.loop-other in
    (omega arith, l.invariant.1 ∙ least_past _ _ l.other c.loop-other-test.true (sym c.is_rival_tail.ensures ∙ c.if-is_rival_tail.false))

pub returns-clause-none : goal.returns-clause-none
returns-clause-none c = let l = c.loop-other in l.invariant.1 ∙ least_end _ _ l.other (omega arith)
