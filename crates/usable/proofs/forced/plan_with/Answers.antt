-- Planning on the forced matrix, carried back to the whole one. Assumes nothing.
use native.Mathlib.Omega.{arith}
use Rattle.std.specs.Prelude.{Result, Ok, Err, IfOk, IfErr, IfSome, IfNone}
use Rattle.std.specs.Result.{result_ok}
use Rattle.instance.proofs.MatrixLaws.{matrix_ends}
use Rattle.usable.proofs.ForcedLaws.{forced_ok, planned_forced, none_forced}
use Rattle.usable.proofs.forced.plan_with.Goals as goal

ok_some : {A E : Type 0} (r : Result A E) {P Q : A → Type 0} → IfOk r P → ((x : A) → P x → Q x) → IfSome (result_ok r) Q
ok_some (Ok x) p f = f x p
ok_some (Err e) p f = p

err_none : {A E : Type 0} (r : Result A E) {P : E → Type 0} {Q : Type 0} → IfErr r P → ((e : E) → P e → Q) → IfNone (result_ok r) Q
err_none (Ok x) p f = p
err_none (Err e) p f = f e p

pub force_arc-requires : goal.force_arc-requires
force_arc-requires c =
    let small = c.requires.0.small in
    let head = (matrix_ends c.args.n c.args.root c.args.m.now c.args.tail c.args.head c.requires.1).head_below in
    (small, omega arith)

pub plan_matrix-requires : goal.plan_matrix-requires
plan_matrix-requires c = forced_ok _ _ c.args.m.now _ _ _ c.requires.0 c.force_arc.ensures

pub returns-clause-some : goal.returns-clause-some
returns-clause-some c =
    rw c.ok.ensures.value
    (ok_some c.plan_matrix.result c.plan_matrix.ensures.ok (planned_forced _ _ c.args.m.now _ _ _ c.requires.0 c.force_arc.ensures c.requires.1 _ _ _))

pub returns-clause-none : goal.returns-clause-none
returns-clause-none c =
    rw c.ok.ensures.value
    (err_none c.plan_matrix.result c.plan_matrix.ensures.err (λ e. none_forced _ _ c.args.m.now _ _ _ c.requires.0 c.force_arc.ensures c.requires.1 e.set))
