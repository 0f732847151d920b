-- The count is that of the tails that were passed. Assumes nothing.
use mathlib.Core.Bool.{cond}
use mathlib.Core.Path.{◌≡◌, refl}
use Prim.Native.Nat.{ℕ}
use native.Mathlib.Omega.{arith}
use borrow.Author.Tests.{eq-eqb, ne_eqb}
use Rattle.base.specs.Bounded.{sum_below, count_below}
use Rattle.usable.specs.Table.{is_used}
use Rattle.base.proofs.SumLaws.{count_step}
use Rattle.states.proofs.show.used_into.Goals as goal
use Rattle.states.proofs.show.used_into.Goals.{else-used-g-eq1, then-used-g-eq1}

pub loop-g-init : goal.loop-g-init
unfolding count_below sum_below
loop-g-init c = (omega arith, omega arith, refl)

pub loop-g-preserved : goal.loop-g-preserved
loop-g-preserved c =
    let l = c.loop-g in
    let a = c.args in
    let step = count_step l.g (λ t. is_used a.used.now t a.head) in
    elim c.if-used-g-eq1.branch [
      | then-used-g-eq1 w ↦ let e : ◌≡◌ {A = ℕ} (cond (is_used a.used.now l.g a.head) 1 0) 1 = rw (eq-eqb _ _ w.if-used-g-eq1.true) in
          let q = w.count-is in
          (omega arith, omega arith, omega arith)
      | else-used-g-eq1 w ↦ let e : ◌≡◌ {A = ℕ} (cond (is_used a.used.now l.g a.head) 1 0) 0 = rw (ne_eqb _ _ w.if-used-g-eq1.false) in
          let q = w.count-is in
          (omega arith, omega arith, omega arith)
    ]
