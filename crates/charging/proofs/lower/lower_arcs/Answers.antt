-- `charging::lower::lower_arcs` meets its contract: the arcs into the vertices passed are lowered. Assumes nothing.
use native.Mathlib.Omega.{arith}
use Rattle.charging.proofs.LowerLaws.{skip_vertex, next_vertex}
use Rattle.charging.proofs.lower.lower_arcs.Goals as goal
use Rattle.charging.proofs.lower.lower_arcs.Goals.{else-label-h, then-label-h}

pub loop-h-preserved : goal.loop-h-preserved
loop-h-preserved c =
    let at-h = c.loop-h.h in
    let small = c.requires.1 in (
      omega arith,
      elim c.if-label-h.branch [ then-label-h w ↦ rw w.w-is (next_vertex _ _ _ _ _ c.loop-h.w _ at-h (omega arith) c.loop-h.invariant.1 w.lower_into.ensures) | else-label-h w ↦ rw w.w-is (skip_vertex _ _ _ _ _ c.loop-h.w at-h (omega arith) c.loop-h.invariant.1 w.if-label-h.false) ],
    )
