-- A card moved from one kind to the other: refused as it was read, or written as what it says. Assumes nothing.
use mathlib.Core.Path.{◌≡◌, sym, ap, ◌∙◌, subst}
use mathlib.Core.Bool.{true}
use mathlib.Core.List.{List}
use Prim.Native.Nat.{ℕ}
use native.Mathlib.Omega.{arith}
use lib.ListN.{length}
use borrow.Author.Tests.{eq-eqb, ne_eqb}
use Rattle.instance.specs.Refusals.{has_records}
use Rattle.instance.specs.Instance.{Instance}
use Rattle.card_format.specs.Card.{bytes_needed, card_refusal, instance_in, card_of}
use Rattle.card_format.proofs.LengthLaws.{length_card_of}
use Rattle.card_format.proofs.OpensLaws.{card_valid}
use Rattle.card.specs.Write.{written_to, buffer_after, CardWritten}
use Rattle.card.specs.Write.{Written}
use Rattle.commands.specs.Model.{Model, opened}
use Rattle.commands.specs.Valid.{valid}
use Rattle.commands.proofs.ValidLaws.{opened_valid}
use Rattle.board.specs.ModelOf.{model_of, instance_of}
use Rattle.board.specs.Create.{board-of}
use Rattle.board.specs.declared.Answered.{Answered}
use Rattle.history_format.specs.HistoryCard.{history_refusal, history_model, to_plain_refusal, history_bytes, history_card_of}
use Rattle.history_format.proofs.HistoryBits.{length_history_card}
use Rattle.history_format.proofs.HistoryAgain.{history_model_valid, history_model_shaped}
use Rattle.history_card.specs.Open.{history_opened}
use Rattle.history_card.specs.Write.{history_written_to, history_buffer_after, HistoryWritten}
use Rattle.history_card.proofs.BoardOfLaws.{model_of_board}
use Rattle.planner.specs.Opening.{plain_opened}
use Rattle.planner.specs.Moving.{not_moved, MovesToHistory, MovesToPlain}
use Rattle.planner.proofs.OpeningLaws.{answer_by, board_by}
use Rattle.planner.proofs.WritingLaws.{StoreCase, store_by}

-- PLAIN TO HISTORY
module _ (ws out : List ℕ) (o : Answered) (e : o ≡ plain_opened ws) where
  plain_answer : o.answer ≡ card_refusal ws
  unfolding plain_opened
  plain_answer = ap (λ (x : Answered). x.answer) e ∙ answer_by (card_refusal ws) (opened (instance_in ws))

  pub plain_refused : (o.answer ≡ 0 → ⊥) → MovesToHistory ws out out (not_moved o.answer)
  plain_refused n =
      let t = ne_eqb o.answer 0 n in
      record { result = rw (← plain_answer, t); buffer = rw (← plain_answer, t) }

  module _ (z : o.answer ≡ 0) where
    opens : card_refusal ws ≡ 0
    opens = sym plain_answer ∙ z

    fresh_valid : valid (opened (instance_in ws)) ≡ true
    fresh_valid = opened_valid (instance_in ws) (card_valid ws opens)

    plain_model : model_of o.board ≡ opened (instance_in ws)
    unfolding plain_opened opened
    plain_model =
        ap (λ (x : Answered). model_of x.board) (e ∙ board_by (card_refusal ws) (opened (instance_in ws)) opens)
        ∙ model_of_board (opened (instance_in ws)) fresh_valid tt

    pub plain_valid : valid (model_of o.board) ≡ true
    plain_valid = subst (λ (m : Model). valid m ≡ true) (sym plain_model) fresh_valid

    pub plain_moved : (r : Written) (out' : List ℕ) → HistoryWritten (model_of o.board) out out' r → MovesToHistory ws out out' r
    plain_moved r out' w =
        let v = subst (λ (m : Model). HistoryWritten m out out' r) plain_model w in
        let t = eq-eqb (card_refusal ws) 0 opens in
        record { result = rw t v.result; buffer = rw t v.buffer }

-- HISTORY TO PLAIN
module _ (ws out : List ℕ) (o : Answered) (e : o ≡ history_opened ws) where
  history_answer : o.answer ≡ history_refusal ws
  unfolding history_opened
  history_answer = ap (λ (x : Answered). x.answer) e ∙ answer_by (history_refusal ws) (history_model ws)

  not_moved_by : (k : ℕ) → to_plain_refusal ws ≡ k → (k ≡ 0 → ⊥) → MovesToPlain ws out out (not_moved k)
  not_moved_by k q n = let t = ne_eqb k 0 n in record { result = rw (q, t); buffer = rw (q, t) }

  pub history_refused : (o.answer ≡ 0 → ⊥) → MovesToPlain ws out out (not_moved o.answer)
  unfolding to_plain_refusal
  history_refused n = not_moved_by o.answer (rw (← history_answer, ne_eqb o.answer 0 n)) n

  module _ (z : o.answer ≡ 0) where
    reads : history_refusal ws ≡ 0
    reads = sym history_answer ∙ z

    holds : o.board ≡ board-of (history_model ws)
    unfolding history_opened
    holds = ap (λ (x : Answered). x.board) (e ∙ board_by (history_refusal ws) (history_model ws) reads)

    its_count : o.board.count ≡ length (history_model ws).history
    unfolding board-of
    its_count = rw holds

    same_instance : instance_of o.board ≡ (history_model ws).instance
    unfolding board-of
    same_instance = rw holds

    pub history_valid : valid (model_of o.board) ≡ true
    history_valid =
        let v = history_model_valid ws reads in
        subst (λ (m : Model). valid m ≡ true) (sym (ap model_of holds ∙ model_of_board (history_model ws) v (history_model_shaped ws))) v

    pub records_refused : (o.board.count ≡ 0 → ⊥) → MovesToPlain ws out out (not_moved has_records)
    unfolding to_plain_refusal
    records_refused n = not_moved_by has_records (rw (reads, ← its_count, ne_eqb o.board.count 0 n)) (λ q. omega arith)

    pub history_moved : o.board.count ≡ 0 → (r : Written) (out' : List ℕ) → CardWritten (instance_of o.board) out out' r → MovesToPlain ws out out' r
    unfolding to_plain_refusal
    history_moved n r out' w =
        let q : to_plain_refusal ws ≡ 0 = rw (reads, ← its_count, eq-eqb o.board.count 0 n) in
        let v = subst (λ (s : Instance). CardWritten s out out' r) same_instance w in
        record { result = rw q v.result; buffer = rw q v.buffer }

-- THE WAYS of a move: what refuses the plain card, 14
pub to_history_cases : (ws out out' : List ℕ) (r : Written) → MovesToHistory ws out out' r →
    StoreCase (card_refusal ws) (history_card_of (opened (instance_in ws))) out out' r
unfolding history_written_to history_buffer_after
to_history_cases ws out out' r w =
    let m = opened (instance_in ws) in
    store_by (card_refusal ws) (history_bytes m) (history_card_of m) out out' r (length_history_card m) w.result w.buffer

-- what refuses the history card, 28 of records, 14
pub to_plain_cases : (ws out out' : List ℕ) (r : Written) → MovesToPlain ws out out' r →
    StoreCase (to_plain_refusal ws) (card_of (history_model ws).instance) out out' r
unfolding written_to buffer_after
to_plain_cases ws out out' r w =
    let s = (history_model ws).instance in
    store_by (to_plain_refusal ws) (bytes_needed s.n) (card_of s) out out' r (length_card_of s) w.result w.buffer
