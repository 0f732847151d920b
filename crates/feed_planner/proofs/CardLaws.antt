-- What the functions that open a card learn of it, and a card that is written again. Assumes nothing.
use mathlib.Core.Path.{◌≡◌, sym, ap, ◌∙◌, subst}
use mathlib.Core.Bool.{true}
use mathlib.Core.List.{List}
use mathlib.Core.Logic.{◌≢◌}
use Prim.Native.Nat.{ℕ}
use lib.ListN.{length}
use Rattle.instance.specs.Instance.{Instance}
use Rattle.instance.specs.Limits.{cells}
use Rattle.card_format.specs.Card.{bytes_needed, card_of}
use Rattle.card_format.proofs.LengthLaws.{length_card_of}
use Rattle.card.specs.Write.{Written}
use Rattle.card.specs.Write.{written_to, buffer_after, CardWritten}
use Rattle.commands.specs.Valid.{valid}
use Rattle.board.specs.ModelOf.{model_of, instance_of}
use Rattle.board.specs.declared.Answered.{Answered}
use Rattle.history_format.specs.HistoryCard.{open_refusal, model_in}
use Rattle.history_format.proofs.HistoryAgain.{model_in_as_read}
use Rattle.planner.specs.Opening.{opened_from}
use Rattle.planner.proofs.OpeningLaws.{opened_answer, opened_model, opened_instance, opened_starts}
use Rattle.planner.proofs.WritingLaws.{StoreCase, store_by}
use Rattle.feed_planner.specs.Store.{kept, Stores}
use Rattle.feed_planner.specs.Cards.{StoresPlain}
use Rattle.feed_planner.proofs.StoreLaws.{stores_refused, stores_by}

module _ (ws : List ℕ) (o : Answered) (e : o ≡ opened_from ws) where
  pub not_opened : o.answer ≢ 0 → open_refusal ws ≢ 0
  not_opened z y = z (opened_answer ws o e ∙ y)

  -- whatever was to be stored, the card's own refusal leaves all as it was
  pub card_refused : (m : ℕ) (bytes out : List ℕ) (n : ℕ) → o.answer ≢ 0 → Stores (open_refusal ws) m bytes out out n n o.answer
  card_refused m bytes out n z = rw (opened_answer ws o e) (stores_refused (open_refusal ws) m bytes out n (not_opened z))

  module _ (z : o.answer ≡ 0) where
    pub opens : open_refusal ws ≡ 0
    opens = sym (opened_answer ws o e) ∙ z

    pub open_valid : valid (model_of o.board) ≡ true
    open_valid = (opened_starts ws o e opens).good

    pub open_model : model_of o.board ≡ model_in ws
    open_model = opened_model ws o e opens

    pub open_instance : instance_of o.board ≡ (model_in ws).instance
    open_instance = opened_instance ws o e opens

    -- the arrays of a board are as long as its type says
    pub open_weights : length o.board.weights ≡ cells
    open_weights = ap (λ (s : Instance). length s.weights) open_instance ∙ (model_in_as_read ws).weights_long

    pub open_marks : length o.board.marks ≡ cells
    open_marks = ap (λ (s : Instance). length s.marks) open_instance ∙ (model_in_as_read ws).marks_long

    pub plain_stored : (out out' : List ℕ) (n : ℕ) (w : Written) → CardWritten (instance_of o.board) out out' w
        → StoresPlain ws out out' n (kept w.answer w.length n) w.answer
    unfolding written_to buffer_after
    plain_stored out out' n w h =
        let s = (model_in ws).instance in
        let g = subst (λ (i : Instance). CardWritten i out out' w) open_instance h in
        let k = store_by 0 (bytes_needed s.n) (card_of s) out out' w (length_card_of s) g.result g.buffer in
        stores_by (open_refusal ws) (card_of s) out out' w n (subst (λ (x : ℕ). StoreCase x (card_of s) out out' w) (sym opens) k)
