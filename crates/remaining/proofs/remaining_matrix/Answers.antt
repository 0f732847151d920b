-- `remaining::remaining_matrix` meets its contract: the cells that were passed are those of the matrix. Assumes
-- nothing.
use mathlib.Core.Path.{sym, ◌∙◌}
use Prim.Native.Nat.{ℕ, ◌%◌}
use native.Mathlib.Omega.{arith}
use Rattle.std.proofs.Common.{rules}
use lib.ListN.{get_or, get_or-replicate}
use Rattle.base.proofs.OverwriteLaws.{overwrite_store, overwrite_pass}
use Rattle.instance.specs.Limits.{no_arc, cells}
use Rattle.instance.specs.Instance.{without_budget}
use Rattle.remaining.specs.declared.pins.Pin.TheVariants as pin
use Rattle.remaining.proofs.RemainingLaws.{cell_empty, cell_judged, cells_judged}
use Rattle.remaining.proofs.remaining_matrix.Goals as goal
use Rattle.remaining.proofs.remaining_matrix.Goals.{else-can_be_arc, then-can_be_arc}

pub loop-i-preserved : goal.loop-i-preserved
loop-i-preserved c =
    let a = c.args in
    let s = without_budget a.n a.root a.weights.now a.marks.now in
    let i = c.loop-i.i in
    let can = sym c.can_be_arc.ensures in
    let p = get_or c.pin_table-pins.result (i % 32) pin.None in
    let none_yet = get_or-replicate {A = ℕ} cells i no_arc 0 (omega arith) in (
      omega arith,
      elim c.if-can_be_arc.branch [
        | then-can_be_arc w ↦ rw w.w-is
            (overwrite_store _ _ c.loop-i.w i _ c.loop-i.invariant.1 (omega arith)
            (w.remaining_weight.ensures ∙ cell_judged s i p (omega arith) (search rules) (can ∙ w.if-can_be_arc.true) (λ b. c.pin_table-pins.ensures.at (i % 32) b)))
        | else-can_be_arc w ↦ rw w.w-is (overwrite_pass _ _ c.loop-i.w i c.loop-i.invariant.1 (none_yet ∙ cell_empty s i (can ∙ w.if-can_be_arc.false)))
      ],
    )

pub returns : goal.returns
returns c = cells_judged _ _ c.loop-i.w c.loop-i.i c.loop-i.invariant.1 c.loop-i-test.false
