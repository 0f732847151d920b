-- The cells below i hold what they should. Assumes nothing.
use mathlib.Core.Path.{◌≡◌, sym, ◌∙◌}
use native.Mathlib.Omega.{arith}
use Rattle.instance.specs.Limits.{cells}
use Rattle.first_tree.proofs.AttemptLaws.{cells_store, cells_pass, cells_all}
use Rattle.first_tree.proofs.attempt.admissible_matrix.Goals as goal
use Rattle.first_tree.proofs.attempt.admissible_matrix.Goals.{else-is_inside, then-is_inside}

pub loop-i-preserved : goal.loop-i-preserved
loop-i-preserved c =
    let a = c.args in
    let l = c.loop-i in
    let r = c.is_inside.ensures in (
      omega arith,
      elim c.if-is_inside.branch [ then-is_inside w ↦ rw w.w-is (cells_store a.m.now a.tails.now a.n a.root c.requires.0 c.requires.1 l.w l.i (omega arith) l.invariant.1 (sym r ∙ w.if-is_inside.true)) | else-is_inside w ↦ rw w.w-is (cells_pass a.m.now a.tails.now a.n a.root l.w l.i (omega arith) l.invariant.1 (sym r ∙ w.if-is_inside.false)) ],
    )

pub returns : goal.returns
returns c =
    let l = c.loop-i in
    let a = c.args in
    let e : l.i ≡ cells = omega arith in
    cells_all a.m.now a.tails.now a.n a.root l.w (rw e at l.invariant.1)
