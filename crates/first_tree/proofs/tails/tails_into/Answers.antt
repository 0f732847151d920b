-- `tails_into` has gathered the tails below t. Assumes nothing.
use mathlib.Core.Path.{sym, ◌∙◌}
use mathlib.Core.Bool.{Bool}
use Prim.Native.Nat.{ℕ}
use native.Mathlib.Omega.{arith}
use Rattle.base.proofs.DigitLaws.{digits_none}
use Rattle.instance.proofs.SetBits.{set_fits, set_more, set_skip}
use Rattle.first_tree.specs.Tails.{tight, tight_set}
use Rattle.first_tree.proofs.tails.tails_into.Goals as goal
use Rattle.first_tree.proofs.tails.tails_into.Goals.{else-is_tight, then-is_tight}

pub loop-t-init : goal.loop-t-init
unfolding tight_set
loop-t-init c = (omega arith, rw (digits_none 2 _))

pub overflow_add-set : goal.overflow_add-set
unfolding tight_set
overflow_add-set c = let a = c.args in record { fits = set_fits (λ t. tight a.m.now a.reduced.now a.n a.root t a.head) _ _ (omega arith) c.loop-t.invariant.1 }

pub loop-t-preserved : goal.loop-t-preserved
unfolding tight_set
loop-t-preserved c =
    let l = c.loop-t in
    let a = c.args in
    let q : ℕ → Bool = λ t. tight a.m.now a.reduced.now a.n a.root t a.head in
    let r = c.is_tight.ensures in (
      omega arith,
      elim c.if-is_tight.branch [ then-is_tight w ↦ rw w.set-is (set_more q _ _ (omega arith) l.invariant.1 (sym r ∙ w.if-is_tight.true)) | else-is_tight w ↦ rw w.set-is (set_skip q _ _ (omega arith) l.invariant.1 (sym r ∙ w.if-is_tight.false)) ],
    )
