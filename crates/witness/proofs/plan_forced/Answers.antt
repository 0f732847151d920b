-- The matrix of what remains, the head's other arcs taken out, is planned. Assumes nothing.
use mathlib.Core.Path.{sym, ◌∙◌, subst}
use mathlib.Core.List.{List}
use Prim.Native.Nat.{ℕ}
use Rattle.instance.specs.Instance.{instance_with}
use Rattle.instance.specs.Matrix.{matrix_instance}
use Rattle.instance.proofs.MatrixLaws.{matrix_budget, valid_matrix}
use Rattle.usable.specs.Forced.{ForcedMatrix}
use Rattle.usable.proofs.ForcedLaws.{forced_ok}
use Rattle.survey.specs.FirstPlan.{PlansFirst}
use Rattle.witness.proofs.MatrixLaws.{forced_is}
use Rattle.witness.proofs.plan_forced.Goals as goal

pub remaining_matrix-m-requires : goal.remaining_matrix-m-requires
remaining_matrix-m-requires c = let a = c.args in (valid_matrix (instance_with a.n a.root a.budget a.weights.now a.marks.now) c.requires.0).small

pub force_arc-requires : goal.force_arc-requires
force_arc-requires c = let a = c.args in ((valid_matrix (instance_with a.n a.root a.budget a.weights.now a.marks.now) c.requires.0).small, c.requires.1)

-- AFTER THE OTHERS ARE TAKEN OUT
pub plan_arcs-requires : goal.plan_arcs-requires
plan_arcs-requires c =
    let a = c.args in
    let s = instance_with a.n a.root a.budget a.weights.now a.marks.now in
    let made = c.remaining_matrix-m.ensures ∙ sym (matrix_budget a.n a.root a.budget a.weights.now a.marks.now) in
    forced_ok _ _ _ _ _ _ (valid_matrix s c.requires.0) (subst (λ (m : List ℕ). ForcedMatrix m c.force_arc.new.w a.n a.tail a.head) made c.force_arc.ensures)

pub returns : goal.returns
returns c =
    let a = c.args in
    let s = instance_with a.n a.root a.budget a.weights.now a.marks.now in
    let made = c.remaining_matrix-m.ensures ∙ sym (matrix_budget a.n a.root a.budget a.weights.now a.marks.now) in
    subst (λ (m : List ℕ). PlansFirst (matrix_instance s.n s.root s.budget m) c.plan_arcs.result)
    (forced_is s _ _ _ (subst (λ (m : List ℕ). ForcedMatrix m c.force_arc.new.w a.n a.tail a.head) made c.force_arc.ensures)) c.plan_arcs.ensures
