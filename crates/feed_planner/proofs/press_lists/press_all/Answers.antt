-- One press after the other; what is made so far and what is left are the whole list. Assumes nothing.
use native.Mathlib.Omega.{arith}
use mathlib.Core.Path.{◌≡◌, refl, sym, ap, ◌∙◌}
use lib.ListN.{length}
use Rattle.board.specs.ModelOf.{command_of}
use Rattle.board.proofs.CallLaws.{call_valid}
use Rattle.instance.proofs.RefusalLaws.{not_0}
use Rattle.feed_planner.proofs.PressListLaws.{presses, presses_nothing, none_yet, stopped_at_kind, stopped_at_press, pressed_one_more, all_pressed}
use Rattle.feed_planner.proofs.press_lists.press_all.Goals as goal

pub loop-i-init : goal.loop-i-init
loop-i-init c = none_yet _ _ _ c.args.b.now c.requires.0

pub returns-in_default : goal.returns-in_default
returns-in_default c =
    let l = c.loop-i in
    let p = c.requires in
    let n = ap presses (sym c.call_at.ensures) ∙ presses_nothing c.call_at.result c.in_default.not-Command in
    (stopped_at_kind _ _ _ _ p.1 p.2 l.b l.i l.invariant c.loop-i-test.true n, l.invariant.good)

pub returns-in-Err : goal.returns-in-Err
returns-in-Err c =
    let l = c.loop-i in
    let p = c.requires in
    let k = command_of c.in-Command.command in (
      rw c.from.ensures (stopped_at_press _ _ _ _ p.1 p.2 l.b l.i l.invariant c.loop-i-test.true k c.in-Command.ensures _ c.in-Err.ensures (not_0 c.in-Err.refusal)),
      call_valid k l.b _ c.in-Err.ensures l.invariant.good,
    )

pub loop-i-preserved : goal.loop-i-preserved
loop-i-preserved c =
    let l = c.loop-i in
    let p = c.requires in
    pressed_one_more _ _ _ _ p.1 p.2 l.b l.i l.invariant c.loop-i-test.true (command_of c.in-Command.command) c.in-Command.ensures _ c.in_default-execute.ensures refl

pub returns : goal.returns
returns c =
    let l = c.loop-i in
    let p = c.requires in
    let e : l.i ≡ length c.args.kinds.now = omega (arith, c.loop-i-test.false, l.auto.i-end) in
    (rw (← e) (all_pressed _ _ _ _ p.1 p.2 l.b l.i l.invariant c.loop-i-test.false), l.invariant.good)
