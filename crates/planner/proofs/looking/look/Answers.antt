-- An invalid board is refused. Assumes nothing.
use mathlib.Core.Path.{sym, ◌∙◌}
use Rattle.planner.proofs.LookingLaws.{looks_invalid}
use Rattle.planner.proofs.looking.look.Goals as goal

pub returns-then-not-is_valid : goal.returns-then-not-is_valid
returns-then-not-is_valid c = looks_invalid c.args.b.now _ (sym c.is_valid.ensures ∙ c.if-not-is_valid.true)
