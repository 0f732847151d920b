-- The matrix of what remains, the arc taken out, is planned. Assumes nothing.
use mathlib.Core.Path.{sym, ap, ◌∙◌, subst}
use mathlib.Core.List.{List}
use Prim.Native.Nat.{ℕ}
use lib.ListN.{set}
use Rattle.instance.specs.Limits.{no_arc}
use Rattle.instance.specs.Instance.{instance_with, cell}
use Rattle.instance.specs.Matrix.{matrix_instance, MatrixOk}
use Rattle.instance.proofs.MatrixLaws.{matrix_budget, valid_matrix}
use Rattle.survey.specs.FirstPlan.{PlansFirst}
use Rattle.witness.proofs.MatrixLaws.{deleted_is, deleted_ok}
use Rattle.witness.proofs.plan_deleted.Goals as goal

pub remaining_matrix-m-requires : goal.remaining_matrix-m-requires
remaining_matrix-m-requires c = let a = c.args in (valid_matrix (instance_with a.n a.root a.budget a.weights.now a.marks.now) c.requires.0).small

pub plan_arcs-requires : goal.plan_arcs-requires
plan_arcs-requires c =
    let a = c.args in
    let s = instance_with a.n a.root a.budget a.weights.now a.marks.now in
    let made = c.remaining_matrix-m.ensures ∙ sym (matrix_budget a.n a.root a.budget a.weights.now a.marks.now) in
    deleted_ok _ _ _ _ (subst (MatrixOk s.n s.root) (sym made) (valid_matrix s c.requires.0))

pub returns : goal.returns
returns c =
    let a = c.args in
    let s = instance_with a.n a.root a.budget a.weights.now a.marks.now in
    let made = c.remaining_matrix-m.ensures ∙ sym (matrix_budget a.n a.root a.budget a.weights.now a.marks.now) in
    let e = ap (λ (m : List ℕ). set m (cell a.tail a.head) no_arc) made ∙ deleted_is s a.tail a.head c.requires.1 c.requires.2 (valid_matrix s c.requires.0).size in
    subst (λ (m : List ℕ). PlansFirst (matrix_instance s.n s.root s.budget m) c.plan_arcs.result) e c.plan_arcs.ensures
