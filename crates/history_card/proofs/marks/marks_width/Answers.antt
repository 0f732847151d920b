-- `marks_width` has counted the bits of the heads below `head`. Assumes nothing.
use mathlib.Core.Path.{sym, ◌∙◌}
use native.Mathlib.Omega.{arith}
use Rattle.history_format.proofs.MemberMarks.{offset_none, offset_most}
use Rattle.history_card.proofs.MarksLaws.{offset_in, offset_out}
use Rattle.history_card.proofs.marks.marks_width.Goals as goal
use Rattle.history_card.proofs.marks.marks_width.Goals.{else-is_inside, then-is_inside}

pub loop-head-init : goal.loop-head-init
loop-head-init c = (omega arith, sym (offset_none c.args.heads))

pub overflow_add-width : goal.overflow_add-width
overflow_add-width c =
    let l = c.loop-head in
    record { fits = omega (arith, l.invariant.0, l.invariant.1, offset_most c.args.heads l.head) }

pub loop-head-preserved : goal.loop-head-preserved
loop-head-preserved c =
    let l = c.loop-head in
    let r = sym c.is_inside.ensures in (
      omega arith,
      elim c.if-is_inside.branch [
        | then-is_inside w ↦ rw (w.width-is, l.invariant.1) (offset_in _ l.head (r ∙ w.if-is_inside.true))
        | else-is_inside w ↦ rw (w.width-is, l.invariant.1) (offset_out _ l.head (r ∙ w.if-is_inside.false))
      ],
    )
