-- The matrix of the admissible arcs is planned; each outcome by its law. Assumes nothing.
use mathlib.Core.Path.{sym, subst}
use Rattle.instance.specs.Matrix.{MatrixOk}
use Rattle.first_tree.proofs.AttemptLaws.{admissible_ok, plan_none, plan_of_total, plan_dearer}
use Rattle.first_tree.proofs.attempt.plan_admissible.Goals as goal

pub plan_matrix-requires : goal.plan_matrix-requires
plan_matrix-requires c = let a = c.args in subst (MatrixOk a.search.n a.search.root) (sym c.admissible_matrix-w.ensures) (admissible_ok a.search.m.now a.tails.now a.search.n a.search.root c.requires.0)

pub returns-then-planned-search-clause-none : goal.returns-then-planned-search-clause-none
returns-then-planned-search-clause-none c =
    let a = c.args in
    plan_dearer a.search.m.now a.tails.now a.search.n a.search.root a.search.total c.requires.0 c.requires.2 _ _ _ _ (rw c.admissible_matrix-w.ensures at c.in-Ok.ensures.ok) c.if-planned-search.true

pub returns-else-planned-search-clause-some : goal.returns-else-planned-search-clause-some
returns-else-planned-search-clause-some c =
    let a = c.args in
    plan_of_total a.search.m.now a.tails.now a.search.n a.search.root a.search.total c.requires.0 c.requires.2 _ _ _ _ (rw c.admissible_matrix-w.ensures at c.in-Ok.ensures.ok) c.if-planned-search.false

pub returns-in-Err-clause-none : goal.returns-in-Err-clause-none
returns-in-Err-clause-none c =
    let a = c.args in
    plan_none a.search.m.now a.tails.now a.search.n a.search.root a.search.total c.requires.0 _ (rw c.admissible_matrix-w.ensures at c.in-Err.ensures.err)
