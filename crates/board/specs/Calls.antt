-- What a call on the program's board answers and leaves: what the contracts say. Assumes nothing: these are
-- definitions.
use Rattle.std.specs.Prelude.{◌≡◌, cond, List, [], ◌∷◌, ℕ, eqb, length, get_or, set, Result as Returned, ⊤}
use Rattle.base.specs.Digits.{from_digits}
use Rattle.instance.specs.Limits.{max_vertices, free}
use Rattle.instance.specs.RefusalNumbers.{answer_of}
use Rattle.instance.specs.declared.refusals.Refusal.{Refusal}
use Rattle.commands.specs.Model.{Replaced, old_mark, old_marks, old_budget}
use Rattle.commands.specs.Commands.{Result}
use Rattle.board.specs.declared.Board.{Board}
use Rattle.board.specs.declared.Answered.{Answered}
use Rattle.board.specs.declared.UndoRecord.{UndoRecord}
use Rattle.board.specs.declared.Replaced.TheVariants.{OldMark, OldBudget, OldMarks}
use Rattle.board.specs.ModelOf.{result_of}

-- the record of what was replaced, as the program stores it
abbrev pub record_of : Replaced → UndoRecord
record_of (old_mark t h m) = record { replaced = OldMark t h m }
record_of (old_marks t c ms) = record { replaced = OldMarks t c (from_digits 4 max_vertices (λ h. get_or ms h free)) }
record_of (old_budget v) = record { replaced = OldBudget v }

-- The record places that are left beside a history, where the first count of them were counted: "Each accepted press is
-- recorded", which sets the place at the count; a take-back and a refused call set none, so every later place is left
-- as it was.
unfoldable pub records_after : (records : List UndoRecord) → (count : ℕ) → (history : List Replaced) → List UndoRecord
records_after rs k [] = rs
records_after rs k (o ∷ os) = cond (eqb (length os) k) (set rs k (record_of o)) rs

-- what a call answers, and the board that it leaves
abbrev pub answered_as : Returned ⊤ Refusal → Board → Answered
answered_as r b = record { answer = answer_of r; board = b }

-- What a call on the board b gives: answer and board as the model's result d, "board as before" after a refusal, and
-- which record places are set. So the whole board is fixed.
pub record Answers (d : Result) (b : Board) (r : Answered) : Type 0 where
  pub result : result_of r ≡ d
  pub records : r.board.records ≡ records_after b.records b.count d.board.history
  pub unchanged : (r.answer ≡ 0 → ⊥) → r.board ≡ b
