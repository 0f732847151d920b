-- All that a board holds, in the model's terms, and what commands leave of it. Assumes nothing: these are definitions.
use Rattle.std.specs.Prelude.{List, [], ◌∷◌, length}
use Rattle.commands.specs.Model.{Model}
use Rattle.commands.specs.Commands.{Command, answered}
use Rattle.board.specs.declared.Board.{Board}
use Rattle.board.specs.declared.UndoRecord.{UndoRecord}
use Rattle.board.specs.ModelOf.{model_of}
use Rattle.board.specs.Calls.{records_after}

-- the model's board, and every record place, those past the count too: two boards that are alike in both are one board
-- (`contents_once`)
pub record Contents : Type 0 where
  pub model : Model
  pub records : List UndoRecord

abbrev pub contents_of : Board → Contents
contents_of b = record { model = model_of b; records = b.records }

-- what a command leaves, accepted or refused: what the call's promise, `Answers`, fixes
unfoldable pub contents_after : Command → Contents → Contents
contents_after c w =
    let m = (answered c w.model).board in
    record { model = m; records = records_after w.records (length w.model.history) m.history }

-- what several leave, each made singly on the board that the one before left
unfoldable pub all_contents_after : List Command → Contents → Contents
all_contents_after [] w = w
all_contents_after (c ∷ cs) w = all_contents_after cs (contents_after c w)
