-- A board with no record, the blank one that stands for no board, and the board that a card opens as. Assumes nothing:
-- these are definitions.
use Rattle.std.specs.Prelude.{◌≡◌, cond, List, [], ◌∷◌, ℕ, eqb, length, set, replicate, Result, Ok, Err}
use Rattle.instance.specs.Instance.{instance_with}
use Rattle.instance.specs.Limits.{cells, max_records}
use Rattle.instance.specs.RefusalNumbers.{refusal_number}
use Rattle.instance.specs.declared.refusals.Refusal.{Refusal}
use Rattle.commands.specs.Model.{Replaced, Model, opened}
use Rattle.board.specs.declared.Board.{Board}
use Rattle.board.specs.declared.Answered.{Answered}
use Rattle.board.specs.declared.UndoRecord.{UndoRecord}
use Rattle.board.specs.ModelOf.{model_of, blank_record}
use Rattle.board.specs.Calls.{record_of}

-- of a plain card (02, A8: an old card): "A board opened from a card has that card's marks and budget and no recorded
-- press."
unfoldable pub board_with : (n root budget : ℕ) → (weights marks : List ℕ) → Board
board_with n r b ws ms =
    record { n = n; root = r; budget = b; weights = ws; marks = ms; records = replicate max_records blank_record; count = 0 }

pub record NewBoard (n root budget : ℕ) (weights marks : List ℕ) (r : Board) : Type 0 where
  pub board : r ≡ board_with n root budget weights marks
  pub model : model_of r ≡ opened (instance_with n root budget weights marks)

-- the one board that stands for "no board"; it is invalid, since it has no vertex
unfoldable pub blank : Board
blank = board_with 0 0 0 (replicate cells 0) (replicate cells 0)

-- OPENED

-- a history in the record places, the oldest first; the places after it are as they were
unfoldable pub stored : (history : List Replaced) → (records : List UndoRecord) → List UndoRecord
stored [] rs = rs
stored (o ∷ os) rs = set (stored os rs) (length os) (record_of o)

-- the board of a model: "that card's marks and budget", and the records that came on the card (02, A8); every place
-- after them is blank
unfoldable pub board-of : Model → Board
board-of m =
    let s = m.instance in
    record {
      n = s.n;
      root = s.root;
      budget = s.budget;
      weights = s.weights;
      marks = s.marks;
      records = stored m.history (replicate max_records blank_record);
      count = length m.history;
    }

abbrev pub answered_with : (answer : ℕ) → Board → Answered
answered_with a b = record { answer = a; board = b }

-- a card opens as a board, or gets a refusal and "no board", which is the blank one
unfoldable pub opened_as : (refusal : ℕ) → Model → Answered
opened_as k m = cond (eqb k 0) (answered_with 0 (board-of m)) (answered_with k blank)

-- what opening a card gives, as such a record: refused, it gives "no board"
abbrev pub opening_of : Result Board Refusal → Answered
opening_of (Ok b) = answered_with 0 b
opening_of (Err r) = answered_with (refusal_number r) blank
