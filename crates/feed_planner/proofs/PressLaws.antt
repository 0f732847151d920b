-- A press on a card gives what the press gives on what the card says, and the card after it. Assumes nothing.
use mathlib.Core.Path.{◌≡◌, sym, ap, ◌∙◌, subst}
use mathlib.Core.Bool.{true}
use mathlib.Core.List.{List}
use mathlib.Core.Logic.{◌≢◌}
use Prim.Native.Nat.{ℕ}
use lib.ListN.{length}
use borrow.Author.Tests.{eq-eqb, ne_eqb}
use Rattle.card.specs.Write.{Written}
use Rattle.commands.specs.Model.{Model}
use Rattle.commands.specs.Commands.{Command, answered}
use Rattle.commands.specs.Valid.{valid}
use Rattle.board.specs.ModelOf.{model_of}
use Rattle.board.specs.Calls.{Answers}
use Rattle.board.specs.declared.Answered.{Answered}
use Rattle.board.proofs.CallLaws.{call_board, call_answer, call_valid}
use Rattle.history_format.specs.HistoryCard.{open_refusal, model_in, history_bytes, history_card_of}
use Rattle.history_format.proofs.HistoryBits.{length_history_card}
use Rattle.history_card.specs.Write.{history_written_to, history_buffer_after, HistoryWritten}
use Rattle.planner.specs.Opening.{opened_from}
use Rattle.planner.proofs.OpeningLaws.{opened_answer}
use Rattle.planner.proofs.WritingLaws.{StoreCase, store_by}
use Rattle.feed_planner.specs.Store.{kept, Stores}
use Rattle.feed_planner.specs.Presses.{pressed, press_refusal, next_card, Presses}
use Rattle.feed_planner.proofs.CardLaws.{not_opened, opens, open_model, open_valid}
use Rattle.feed_planner.proofs.StoreLaws.{stores_refused, stores_by}

-- a valid board that was written
pub history_stored : (m : Model) (out out' : List ℕ) (r : Written) → HistoryWritten m out out' r → StoreCase 0 (history_card_of m) out out' r
unfolding history_written_to history_buffer_after
history_stored m out out' r w = store_by 0 (history_bytes m) (history_card_of m) out out' r (length_history_card m) w.result w.buffer

module _ (ws : List ℕ) (c : Command) (o : Answered) (e : o ≡ opened_from ws) where
  -- the card is refused
  pub card_not_pressed : (out : List ℕ) (n : ℕ) → o.answer ≢ 0 → Presses ws c out out n n o.answer
  unfolding press_refusal
  card_not_pressed out n z =
      let y = not_opened ws o e z in
      rw (opened_answer ws o e, ne_eqb (open_refusal ws) 0 y) (stores_refused (open_refusal ws) (length (next_card ws c)) (next_card ws c) out n y)

  module _ (z : o.answer ≡ 0) (d : Answered) (a : Answers (answered c (model_of o.board)) o.board d) where
    same : model_of o.board ≡ model_in ws
    same = open_model ws o e z

    made_answer : d.answer ≡ press_refusal ws c
    unfolding press_refusal
    made_answer = rw (eq-eqb (open_refusal ws) 0 (opens ws o e z)) (call_answer c o.board d a ∙ ap (λ (m : Model). (answered c m).answer) same)

    made_board : model_of d.board ≡ (pressed ws c).board
    made_board = call_board c o.board d a ∙ ap (λ (m : Model). (answered c m).board) same

    -- the press is refused
    pub press_refused : (out : List ℕ) (n : ℕ) → d.answer ≢ 0 → Presses ws c out out n n d.answer
    press_refused out n y =
        let m = length (next_card ws c) in
        subst (λ (k : ℕ). Stores k m (next_card ws c) out out n n d.answer) made_answer (stores_refused d.answer m (next_card ws c) out n y)

    pub next_valid : valid (model_of d.board) ≡ true
    next_valid = call_valid c o.board d a (open_valid ws o e z)

    -- the press is made, and the card after it is written
    pub press_stored : (out out' : List ℕ) (n : ℕ) (w : Written) → d.answer ≡ 0 → HistoryWritten (model_of d.board) out out' w
        → Presses ws c out out' n (kept w.answer w.length n) w.answer
    press_stored out out' n w y h =
        let s = history_stored (pressed ws c).board out out' w (subst (λ (m : Model). HistoryWritten m out out' w) made_board h) in
        stores_by (press_refusal ws c) (next_card ws c) out out' w n (subst (λ (k : ℕ). StoreCase k (next_card ws c) out out' w) (sym y ∙ made_answer) s)
