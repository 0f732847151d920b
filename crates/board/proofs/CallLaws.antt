-- What the contract of a public call gives on the program's own board, whatever the board and the arguments are.
-- Assumes nothing.
use mathlib.Core.Path.{◌≡◌, refl, sym, ap, ◌∙◌, subst}
use mathlib.Core.Bool.{true, false}
use mathlib.Core.List.{List, [], ◌∷◌}
use Prim.Native.Nat.{ℕ, ◌≤◌}
use native.Mathlib.Omega.{arith}
use lib.ListN.{length, set}
use borrow.Author.Tests.{eq-eqb, ne_eqb}
use Rattle.commands.specs.Model.{Model, Replaced}
use Rattle.commands.specs.Valid.{valid}
use Rattle.commands.specs.Commands.{Command, undo, Result, refused, answered}
use Rattle.commands.specs.Changes.{is_undo, ChangesOnlyNamed}
use Rattle.commands.proofs.ChangeLaws.{answered_changes}
use Rattle.commands.proofs.CommandLaws.{command_recorded}
use Rattle.commands.proofs.AnsweredLaws.{answered_applied, answered_valid, accepted_valid, answered_undo_restores, answered_undo_shorter}
use Rattle.board.specs.declared.Board.{Board}
use Rattle.board.specs.declared.Answered.{Answered}
use Rattle.board.specs.declared.UndoRecord.{UndoRecord}
use Rattle.board.specs.ModelOf.{model_of, history_of, result_of}
use Rattle.board.specs.Calls.{record_of, records_after, Answers}
use Rattle.board.proofs.ModelOfLaws.{length_history}

-- THE RECORD PLACES that are left: one more record sets the place at the count, any other history sets none
pub records_added :
    (b : Board) (o : Replaced) → records_after b.records b.count (o ∷ history_of b.count b.records) ≡ set b.records b.count (record_of o)
unfolding records_after
records_added b o = rw (eq-eqb _ _ (length_history b.count b.records))

pub records_left : (rs : List UndoRecord) (k : ℕ) (os : List Replaced) → length os ≤ k → records_after rs k os ≡ rs
unfolding records_after
records_left rs k [] l = refl
records_left rs k (o ∷ os) l = rw (ne_eqb (length os) k (λ e. omega arith))

-- REFUSED
pub answers_refused : (k : ℕ) (d : Result) (b : Board) → d ≡ refused k (model_of b) → Answers d b (record { answer = k; board = b })
unfolding refused
answers_refused k d b e =
    rw e
    (record {
      result = refl;
      records = sym (records_left b.records b.count (history_of b.count b.records) (omega (arith, length_history b.count b.records)));
      unchanged = λ _. refl;
    })

module _ (c : Command) (b : Board) (r : Answered) (a : Answers (answered c (model_of b)) b r) where
  -- the board that is left, in the model's terms
  pub call_board : model_of r.board ≡ (answered c (model_of b)).board
  call_board = ap (λ (d : Result). d.board) a.result

  pub call_answer : r.answer ≡ (answered c (model_of b)).answer
  call_answer = ap (λ (d : Result). d.answer) a.result

  -- EVERY CALL ON A VALID BOARD LEAVES A VALID ONE
  pub call_valid : valid (model_of b) ≡ true → valid (model_of r.board) ≡ true
  call_valid v = rw call_board (answered_valid c (model_of b) v)

  -- NOTHING CHANGES BUT WHAT THE COMMAND NAMES
  pub call_changes : ChangesOnlyNamed c (model_of b) (model_of r.board)
  call_changes = subst (λ (m : Model). ChangesOnlyNamed c (model_of b) m) (sym call_board) (answered_changes c (model_of b))

  -- UNDO RIGHT AFTER AN ACCEPTED COMMAND is accepted, and leaves the board of before with its whole history
  pub call_undo_restores :
      is_undo c ≡ false → r.answer ≡ 0 → (q : Answered) → Answers (answered undo (model_of r.board)) r.board q →
      result_of q ≡ record { answer = 0; board = model_of b }
  call_undo_restores n e q u = u.result ∙ rw call_board (answered_undo_restores c (model_of b) n (sym call_answer ∙ e))

  -- AN ACCEPTED PRESS SETS THE RECORD PLACE AT THE COUNT to what the history gained, and no other place
  pub call_records :
      is_undo c ≡ false → r.answer ≡ 0 →
      (o : Replaced) × ((model_of r.board).history ≡ o ∷ (model_of b).history) × (r.board.records ≡ set b.records b.count (record_of o))
  call_records n e =
      let z = sym call_answer ∙ e in
      let q = answered_applied c (model_of b) (accepted_valid c (model_of b) z) in
      let g = command_recorded c (model_of b) n (ap (λ (d : Result). d.answer) (sym q) ∙ z) in
      let h : (answered c (model_of b)).board.history ≡ g.0 ∷ (model_of b).history = ap (λ (d : Result). d.board.history) q ∙ g.1 in (
        g.0,
        ap (λ (m : Model). m.history) call_board ∙ h,
        a.records ∙ ap (records_after b.records b.count) h ∙ records_added b g.0,
      )

-- A TAKE-BACK SETS NONE
pub undo_records : (b : Board) (r : Answered) → Answers (answered undo (model_of b)) b r → r.board.records ≡ b.records
undo_records b r a =
    a.records
    ∙ records_left b.records b.count (answered undo (model_of b)).board.history
    (omega (arith, answered_undo_shorter (model_of b), length_history b.count b.records))
