-- Refused by its number, or explained. Assumes nothing.
use mathlib.Core.Path.{sym, ◌∙◌}
use Rattle.instance.proofs.RefusalLaws.{not_0}
use Rattle.planner.proofs.ExplainingLaws.{explains_refused, explains_passed}
use Rattle.planner.proofs.explaining.why.Goals as goal

pub returns-in-Err : goal.returns-in-Err
returns-in-Err c =
    let a = c.args in
    explains_refused a.b.now a.tail.0 a.head.0 _ _ (c.from.ensures ∙ c.in-Err.ensures) (λ z. not_0 c.in-Err.refusal (sym c.from.ensures ∙ z))

pub explain-requires : goal.explain-requires
explain-requires c = sym c.in_default.ensures

pub returns : goal.returns
returns c =
    let a = c.args in
    explains_passed a.b.now a.tail.0 a.head.0 _ _ _ (sym c.in_default.ensures) c.explain.ensures
