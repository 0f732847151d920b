-- Refused by its number, or planned without the arc. Assumes nothing.
use mathlib.Core.Path.{sym, ◌∙◌}
use native.Mathlib.Omega.{arith}
use Rattle.std.proofs.Common.{rules}
use Rattle.commands.proofs.ValidLaws.{valid_fields}
use Rattle.board.specs.ModelOf.{model_of}
use Rattle.instance.proofs.RefusalLaws.{not_0}
use Rattle.planner.proofs.ExplainingLaws.{explainable, explainable_small, plan_without_refused, plan_without_planned}
use Rattle.planner.proofs.explaining.plan_without.Goals as goal

pub returns-in-Err : goal.returns-in-Err
returns-in-Err c =
    let a = c.args in
    plan_without_refused a.b.now a.tail.0 a.head.0 _ _ (c.from.ensures ∙ c.in-Err.ensures) (λ z. not_0 c.in-Err.refusal (sym c.from.ensures ∙ z))

pub plan_deleted-plan-requires : goal.plan_deleted-plan-requires
plan_deleted-plan-requires c =
    let x = explainable (model_of c.args.b.now) _ _ _ _ (sym c.in_default.ensures) in
    let n = explainable_small _ _ _ _ _ x in
    (valid_fields _ x.is_valid, omega (arith, x.tail_below, n), omega (arith, x.head_below, n))

pub display_plan-requires : goal.display_plan-requires
display_plan-requires c =
    let x = explainable (model_of c.args.b.now) _ _ _ _ (sym c.in_default.ensures) in
    (explainable_small _ _ _ _ _ x, x.for_parents, x.for_cuts)

pub returns : goal.returns
returns c =
    let a = c.args in
    plan_without_planned a.b.now a.tail.0 a.head.0 c.plan_deleted-plan.result _ _ (sym c.in_default.ensures) c.plan_deleted-plan.ensures c.display_plan.ensures
