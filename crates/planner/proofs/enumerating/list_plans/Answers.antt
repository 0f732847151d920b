-- An invalid board and a limit out of range are refused; a valid board is an instance that can be walked. Assumes
-- nothing.
use mathlib.Core.Path.{sym, ◌∙◌}
use Rattle.commands.proofs.ValidLaws.{valid_fields}
use Rattle.board.specs.ModelOf.{model_of}
use Rattle.planner.proofs.EnumeratingLaws.{lists_invalid, lists_refused, lists_walked, limit_high}
use Rattle.planner.proofs.enumerating.list_plans.Goals as goal

pub returns-then-not-is_valid : goal.returns-then-not-is_valid
returns-then-not-is_valid c = lists_invalid c.args.b _ _ (sym c.is_valid.ensures ∙ c.if-not-is_valid.true)

pub returns-then-is_limit_refused : goal.returns-then-is_limit_refused
returns-then-is_limit_refused c =
    lists_refused c.args.b _ _ (sym c.is_valid.ensures ∙ c.if-not-is_valid.false) (sym c.is_limit_refused.ensures ∙ c.if-is_limit_refused.true)

pub list_trees-p-requires : goal.list_trees-p-requires
list_trees-p-requires c =
    (valid_fields (model_of c.args.b) (sym c.is_valid.ensures ∙ c.if-not-is_valid.false), limit_high _ (sym c.is_limit_refused.ensures ∙ c.if-is_limit_refused.false))

pub overflow_sub-result : goal.overflow_sub-result
overflow_sub-result c = c.list_trees-p.ensures.left

pub returns : goal.returns
returns c =
    lists_walked c.args.b _ _ _ c.list_trees-p.result (sym c.is_valid.ensures ∙ c.if-not-is_valid.false)
    (sym c.is_limit_refused.ensures ∙ c.if-is_limit_refused.false) c.list_trees-p.ensures
