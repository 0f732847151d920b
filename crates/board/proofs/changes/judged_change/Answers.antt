-- `judged_change` refuses an invalid board; on a valid one it is what the command comes to. Assumes nothing.
use mathlib.Core.Path.{sym, ◌∙◌}
use Rattle.board.specs.ModelOf.{command_of}
use Rattle.board.proofs.ChangeOfLaws.{gives_valid, gives_invalid}
use Rattle.board.proofs.changes.judged_change.Goals as goal

pub returns-then-not-is_valid : goal.returns-then-not-is_valid
returns-then-not-is_valid c = gives_invalid (command_of c.args.command) _ (sym c.is_valid.ensures ∙ c.if-not-is_valid.true)

pub returns : goal.returns
returns c =
    gives_valid (command_of c.args.command) _ _ (sym c.is_valid.ensures ∙ c.if-not-is_valid.false) c.change_of.ensures
