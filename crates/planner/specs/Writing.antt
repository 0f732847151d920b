-- What writing a board as a card of either kind gives, as equations. Assumes nothing: these are definitions.
use Rattle.std.specs.Prelude.{◌≡◌, cond, List, ℕ}
use Rattle.instance.specs.Refusals.{invalid_board}
use Rattle.card.specs.Write.{written_to, buffer_after}
use Rattle.card.specs.Write.{Written}
use Rattle.commands.specs.Valid.{valid}
use Rattle.board.specs.ModelOf.{model_of, instance_of}
use Rattle.board.specs.declared.Board.{Board}
use Rattle.history_card.specs.Write.{history_written_to, history_buffer_after}

-- "15 comes first .. 14 for looks and writes"; "returns the needed length, and touches only the needed bytes":
-- `written_to` and `buffer_after` are the card's own equations
pub record Writes (b : Board) (out out' : List ℕ) (r : Written) : Type 0 where
  pub result : r ≡ cond (valid (model_of b)) (written_to (instance_of b) out) (record { answer = invalid_board; length = 0 })
  pub buffer : out' ≡ cond (valid (model_of b)) (buffer_after (instance_of b) out) out

-- "A board can be written as a new card, records and all." (02, A8)
pub record WritesHistory (b : Board) (out out' : List ℕ) (r : Written) : Type 0 where
  pub result : r ≡ cond (valid (model_of b)) (history_written_to (model_of b) out) (record { answer = invalid_board; length = 0 })
  pub buffer : out' ≡ cond (valid (model_of b)) (history_buffer_after (model_of b) out) out
