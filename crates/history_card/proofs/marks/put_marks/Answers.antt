-- `put_marks` has put the marks of the heads below `head`. Assumes nothing.
use Prim.Native.Nat.{◌<◌}
use native.Mathlib.Omega.{arith}
use Rattle.bits.proofs.WriterLaws.{put_none, put_then}
use Rattle.instance.specs.Limits.{max_vertices}
use Rattle.history_card.proofs.MarksLaws.{marks_none, next_mark, mark_room}
use Rattle.history_card.proofs.marks.put_marks.Goals as goal

pub loop-head-init : goal.loop-head-init
loop-head-init c = (omega arith, rw (marks_none c.args.heads) (put_none _ _ c.requires.few))

pub put_mark-w-requires : goal.put_mark-w-requires
put_mark-w-requires c =
    let l = c.loop-head in
    let h : l.head < max_vertices = omega arith in
    (h, mark_room _ _ _ _ c.args.heads c.args.marks l.head h l.invariant.1 c.requires)

pub loop-head-preserved : goal.loop-head-preserved
loop-head-preserved c =
    let l = c.loop-head in
    let a = c.args in
    let h : l.head < max_vertices = omega arith in
    (omega arith, rw (next_mark a.heads a.marks l.head h) (put_then _ _ _ _ _ _ _ _ l.invariant.1 c.put_mark-w.ensures))
