-- No line feed stands behind the bytes that are left. Assumes nothing.
use mathlib.Core.Path.{◌≡◌, refl, sym, ◌∙◌}
use native.Mathlib.Omega.{arith}
use Rattle.print_card.proofs.JudgeLaws.{end_here, end_before, end_none}
use Rattle.print_card.proofs.judge.line_end.Goals as goal

pub loop-k-init : goal.loop-k-init
loop-k-init c = (omega arith, refl)

pub returns-then-text-k-eq10 : goal.returns-then-text-k-eq10
returns-then-text-k-eq10 c =
    let l = c.loop-k in
    sym (l.invariant.1 ∙ end_here c.args.text.now l.k (omega arith) c.if-text-k-eq10.true)

pub loop-k-preserved : goal.loop-k-preserved
loop-k-preserved c =
    let l = c.loop-k in
    (omega arith, l.invariant.1 ∙ end_before c.args.text.now l.k (omega arith) c.if-text-k-eq10.false)

pub returns : goal.returns
returns c =
    let l = c.loop-k in
    let z : l.k ≡ 0 = omega arith in
    sym (l.invariant.1 ∙ rw z (end_none c.args.text.now))
