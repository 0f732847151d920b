-- The pin sums up the pinned tails that were passed. Assumes nothing.
use mathlib.Core.Path.{sym, ◌∙◌}
use native.Mathlib.Omega.{arith}
use Rattle.remaining.proofs.PinLaws.{pins_none, pins_pass, pins_more}
use Rattle.remaining.proofs.pins.pins_into.Goals as goal
use Rattle.remaining.proofs.pins.pins_into.Goals.{then-is_pinned, else-is_pinned}

pub loop-g-init : goal.loop-g-init
loop-g-init c = (omega arith, pins_none _ _)

pub loop-g-preserved : goal.loop-g-preserved
loop-g-preserved c =
    let found = sym c.is_pinned.ensures in (
      omega arith,
      elim c.if-is_pinned.branch [ then-is_pinned w ↦ rw (w.pin-is, w.with-pin.ensures) (pins_more _ _ c.loop-g.g _ (found ∙ w.if-is_pinned.true) c.loop-g.invariant.1) | else-is_pinned w ↦ rw w.pin-is (pins_pass _ _ c.loop-g.g _ (found ∙ w.if-is_pinned.false) c.loop-g.invariant.1) ],
    )
