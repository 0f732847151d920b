-- `change_of` hands over to the command's own function, whose change gives what the model gives. Assumes nothing.
use mathlib.Core.Path.{◌≡◌}
use mathlib.Core.Bool.{true}
use Prim.Native.Nat.{◌≤◌}
use Rattle.instance.specs.Limits.{max_vertices}
use Rattle.commands.specs.Valid.{valid}
use Rattle.commands.specs.Commands.{applied}
use Rattle.commands.proofs.ValidLaws.{valid_parts}
use Rattle.board.specs.declared.Board.{Board}
use Rattle.board.specs.ModelOf.{model_of}
use Rattle.board.proofs.ModelOfLaws.{length_history}
use Rattle.board.proofs.ChangeOfLaws.{mark_gives, marks_gives, budget_gives, undo_gives}
use Rattle.board.proofs.changes.change_of.Goals as goal

small : (b : Board) → valid (model_of b) ≡ true → b.n ≤ max_vertices
small b ok = (valid_parts (model_of b) ok).n_high

pub mark_change-requires : goal.mark_change-requires
mark_change-requires c = small _ c.requires

pub undo_change-requires : goal.undo_change-requires
undo_change-requires c = rw (length_history c.args.b.now.count c.args.b.now.records) at (valid_parts _ c.requires).few

pub returns-in-SetMark : goal.returns-in-SetMark
unfolding applied
returns-in-SetMark c = rw (c.in-SetMark.is, c.mark_change.ensures) (mark_gives _ (small _ c.requires) _ _ _)

pub returns-in-SetMarks : goal.returns-in-SetMarks
unfolding applied
returns-in-SetMarks c = rw (c.in-SetMarks.is, c.marks_change.ensures) (marks_gives _ c.requires _ _ _)

pub returns-in-SetBudget : goal.returns-in-SetBudget
unfolding applied
returns-in-SetBudget c = rw (c.in-SetBudget.is, c.budget_change.ensures) (budget_gives _ _)

pub returns-in-TakeBack : goal.returns-in-TakeBack
unfolding applied
returns-in-TakeBack c = rw (c.in-TakeBack.is, c.undo_change.ensures) (undo_gives _ c.requires)
