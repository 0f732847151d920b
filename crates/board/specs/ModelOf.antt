-- What the program's board and commands mean in the model's terms. Assumes nothing: these are definitions.
use Rattle.std.specs.Prelude.{List, [], ◌∷◌, ℕ, zero, suc, get_or}
use Rattle.instance.specs.Instance.{Instance, instance_with}
use Rattle.heads.specs.RecordMarks.{record_marks}
use Rattle.commands.specs.Model.{Model, Replaced, old_mark, old_marks, old_budget}
use Rattle.commands.specs.Commands.{Result, Command, set_mark, set_marks, set_budget, undo}
use Rattle.board.specs.declared.Board.{Board}
use Rattle.board.specs.declared.Answered.{Answered}
use Rattle.board.specs.declared.UndoRecord.{UndoRecord}
use Rattle.board.specs.declared.Replaced as declared-replaced
use Rattle.board.specs.declared.Replaced.TheVariants.{OldMark, OldBudget, OldMarks}
use Rattle.board.specs.declared.Command as declared-command
use Rattle.board.specs.declared.Command.TheVariants.{SetMark, SetMarks, SetBudget, TakeBack}

-- the one name for what a record restores
abbrev pub replaced_of : declared-replaced.Replaced → Replaced
replaced_of (OldMark t h m) = old_mark t h m
replaced_of (OldBudget v) = old_budget v
replaced_of (OldMarks t c v) = old_marks t c (record_marks c v)

abbrev pub blank_record : UndoRecord
blank_record = record { replaced = OldMark 0 0 0 }

-- the first count records, the latest first; "record places past the count are never looked at"
unfoldable pub history_of : (count : ℕ) → List UndoRecord → List Replaced
history_of zero rs = []
history_of (suc k) rs = replaced_of (get_or rs k blank_record).replaced ∷ history_of k rs

abbrev pub instance_of : Board → Instance
instance_of b = instance_with b.n b.root b.budget b.weights b.marks

abbrev pub model_of : Board → Model
model_of b = record { instance = instance_of b; history = history_of b.count b.records }

abbrev pub command_of : declared-command.Command → Command
command_of (SetMark m t h) = set_mark m t.0 h.0
command_of (SetMarks m t c) = set_marks m t.0 c
command_of (SetBudget v) = set_budget v
command_of TakeBack = undo

abbrev pub result_of : Answered → Result
result_of r = record { answer = r.answer; board = model_of r.board }
