-- `read_marks` has read the marks of the heads below `head`. Assumes nothing.
use mathlib.Core.Path.{◌≡◌, refl, sym, ◌∙◌}
use mathlib.Core.Bool.{Bool, true, false, cond}
use Prim.Native.Nat.{ℕ, ◌≤◌, ◌<◌}
use native.Mathlib.Omega.{arith}
use lib.ListN.{get_or}
use Rattle.instance.specs.Limits.{free, banned}
use Rattle.instance.specs.Instance.{cell}
use Rattle.instance.specs.Cuts.{inside}
use Rattle.base.proofs.DigitLaws.{digits_none}
use Rattle.heads.proofs.LoopLaws.{mark_fits, mark_more, mark_skip}
use Rattle.heads.proofs.marks.read_marks.Goals as goal
use Rattle.heads.proofs.marks.read_marks.Invariants.{old_at}
use Rattle.heads.proofs.marks.read_marks.Goals.{else-is_inside, then-is_inside}

-- those that are read are in range
small : (c : goal.Start) (v : ℕ) → v < 32 → old_at c.args.marks.now c.args.tail c.args.heads v < 4
small c v l = at (inside c.args.heads v) (c.requires.by_index v l)
  where
    at : (b : Bool) → (b ≡ true → get_or c.args.marks.now (cell c.args.tail v) free ≤ banned) → cond b (get_or c.args.marks.now (cell c.args.tail v) free) free < 4
    at true h = omega (arith, h refl)
    at false h = omega arith

pub loop-head-init : goal.loop-head-init
loop-head-init c = (omega arith, rw (digits_none 4 _))

pub overflow_add-value : goal.overflow_add-value
overflow_add-value c =
    let e = sym c.is_inside.ensures ∙ c.if-is_inside.true in
    record { fits = rw e at (mark_fits (old_at c.args.marks.now c.args.tail c.args.heads) (small c.before.before.before.before.before.before.before) _ _ (omega arith) c.loop-head.invariant.1) }

pub loop-head-preserved : goal.loop-head-preserved
loop-head-preserved c =
    let l = c.loop-head in
    let g = old_at c.args.marks.now c.args.tail c.args.heads in
    let r = sym c.is_inside.ensures in (
      omega arith,
      elim c.if-is_inside.branch [ then-is_inside w ↦ rw w.value-is (rw (r ∙ w.if-is_inside.true) at (mark_more g (small c.before.before.before.before) _ _ (omega arith) l.invariant.1)) | else-is_inside w ↦ rw w.value-is (mark_skip g (small c.before.before.before.before) _ _ (omega arith) l.invariant.1 (rw (r ∙ w.if-is_inside.false))) ],
    )
