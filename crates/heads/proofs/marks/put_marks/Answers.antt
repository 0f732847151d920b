-- `put_marks` has put the marks of the heads below `head`. Assumes nothing.
use mathlib.Core.Path.{ap, ◌≡◌, sym, ◌∙◌}
use Prim.Native.Nat.{ℕ, ◌*◌, ◌^◌, ◌/◌, ◌%◌}
use native.Mathlib.Omega.{arith}
use Rattle.base.specs.Digits.{digit}
use Rattle.instance.specs.Cuts.{inside}
use Rattle.heads.proofs.LoopLaws.{four_pow, put_start, put_next, put_skip, put_end}
use Rattle.heads.proofs.marks.put_marks.Goals as goal
use Rattle.heads.proofs.marks.put_marks.Goals.{else-is_inside, then-is_inside}

pub loop-head-init : goal.loop-head-init
loop-head-init c = (omega arith, put_start c.args.tail (inside c.args.heads) (digit 4 c.args.new) _)

pub loop-head-preserved : goal.loop-head-preserved
unfolding digit
loop-head-preserved c =
    let l = c.loop-head in
    let a = c.args in
    let r = sym c.is_inside.ensures in
    let z : a.new / 2 ^ (2 * l.head) % 4 ≡ digit 4 a.new l.head = ap (λ (x : ℕ). a.new / x % 4) (four_pow l.head) in (
      omega arith,
      elim c.if-is_inside.branch [ then-is_inside w ↦ rw w.marks-is (put_next a.tail (inside a.heads) (digit 4 a.new) _ l.head _ (omega arith) l.invariant.1 _ (r ∙ w.if-is_inside.true) z) | else-is_inside w ↦ rw w.marks-is (put_skip a.tail (inside a.heads) (digit 4 a.new) _ l.head _ (omega arith) l.invariant.1 (r ∙ w.if-is_inside.false)) ],
    )

pub returns : goal.returns
returns c = put_end c.args.tail (inside c.args.heads) (digit 4 c.args.new) _ c.loop-head.head _ (omega arith) c.loop-head.invariant.1
