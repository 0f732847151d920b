-- "A card moves old to new with no records, and new to old only without records; there and back gives the same bytes."
-- Either kind of card opens as the same board as the other. Assumes nothing.
--
-- A plain card that opens moves to the history card of its board, which has no records; a history card with none moves
-- to the plain card of its board's instance. What is written is read as the very board (ModelAgain), since the board
-- came off a card; and what was read is written as the very bytes (HistoryAgain, CardAgain of card_format).
use mathlib.Core.Path.{◌≡◌, refl, sym, ap, ◌∙◌}
use mathlib.Core.Bool.{true, false, cond}
use mathlib.Core.List.{List, [], ◌∷◌}
use Prim.Native.Nat.{ℕ, suc}
use native.Mathlib.Omega.{arith}
use lib.Dec.{eqb}
use lib.ListN.{length}
use borrow.Author.Tests.{ne_eqb}
use Rattle.bits.specs.Bits.{bits_in, are_bytes}
use Rattle.instance.specs.Refusals.{has_records}
use Rattle.instance.specs.Instance.{Instance}
use Rattle.instance.specs.Valid.{valid_instance}
use Rattle.card_format.specs.Card.{n_in, instance_in, card_refusal, card_of}
use Rattle.card_format.proofs.CellLaws.{first_passes}
use Rattle.card_format.proofs.OpensLaws.{opens, card_valid}
use Rattle.card_format.proofs.CardAgain.{card_round_trip}
use Rattle.card_format.proofs.InstanceAgain.{written_opens, instance_back}
use Rattle.commands.specs.Model.{Replaced, Model, opened}
use Rattle.commands.specs.Valid.{valid}
use Rattle.commands.proofs.ValidLaws.{valid_fields, opened_valid}
use Rattle.history_format.specs.RecordWidths.{history_marker}
use Rattle.history_format.specs.HistoryCard.{is_history, history_model, history_refusal, open_refusal, model_in, to_plain_refusal, history_card_of}
use Rattle.history_format.proofs.HeaderSteps.{history_opens}
use Rattle.history_format.proofs.HistoryBits.{history_kind_again}
use Rattle.history_format.proofs.ModelAgain.{history_opens_again, model_back}
use Rattle.history_format.proofs.HistoryAgain.{history_card_round_trip, history_model_valid, history_model_as_read, card_as_read, model_of_history, model_of_card}

-- THE KINDS APART
-- 63 is more than 32 vertices
pub card_not_history : (ws : List ℕ) → card_refusal ws ≡ 0 → is_history ws ≡ false
unfolding is_history
card_not_history ws e =
    let few = (opens ws e).header.n_high in
    ne_eqb (n_in (bits_in ws)) history_marker (λ q. omega arith)

-- "Old cards still open", and history cards do
pub plain_card_opens : (ws : List ℕ) → card_refusal ws ≡ 0 → open_refusal ws ≡ 0
unfolding open_refusal
plain_card_opens ws e = rw (card_not_history ws e) e

pub history_card_opens : (ws : List ℕ) → history_refusal ws ≡ 0 → open_refusal ws ≡ 0
unfolding open_refusal
history_card_opens ws e = rw (history_opens ws e).header.kind e

-- THE MOVES
abbrev pub as_history_card : (card : List ℕ) → List ℕ
as_history_card ws = history_card_of (opened (instance_in ws))

abbrev pub as_plain_card : (card : List ℕ) → List ℕ
as_plain_card ws = card_of (history_model ws).instance

-- PLAIN TO HISTORY
module _ (ws : List ℕ) (e : card_refusal ws ≡ 0) where
  abbrev m : Model
  m = opened (instance_in ws)

  m_valid : valid m ≡ true
  m_valid = opened_valid (instance_in ws) (card_valid ws e)

  no_records : history_model (as_history_card ws) ≡ m
  unfolding opened
  no_records = model_back m m_valid tt (card_as_read ws)

  moved_opens : history_refusal (as_history_card ws) ≡ 0
  unfolding opened
  moved_opens = history_opens_again m m_valid tt

  moved_plain : to_plain_refusal (as_history_card ws) ≡ 0
  unfolding to_plain_refusal opened
  moved_plain = rw (moved_opens, no_records)

  pub same_board_history : model_in (as_history_card ws) ≡ model_in ws
  same_board_history =
      model_of_history (as_history_card ws) (history_kind_again m) ∙ no_records ∙ sym (model_of_card ws (card_not_history ws e))

pub plain_there_and_back : (ws : List ℕ) → are_bytes ws ≡ true → card_refusal ws ≡ 0 → (to_plain_refusal (as_history_card ws) ≡ 0) × (as_plain_card (as_history_card ws) ≡ ws)
unfolding opened
plain_there_and_back ws b e = (moved_plain ws e, ap (λ (x : Model). card_of x.instance) (no_records ws e) ∙ card_round_trip ws b e)

-- HISTORY TO PLAIN
-- a move that is not refused: the card opens, and there is no record
none_left : (h : List Replaced) → cond (eqb (length h) 0) 0 has_records ≡ 0 → h ≡ []
none_left [] e = refl
none_left (o ∷ os) e =
    let q : has_records ≡ 0 = simp (ne_eqb (suc (length os)) 0 (λ z. omega arith)) at e in absurd (omega arith)

pub plain_passed : (ws : List ℕ) → to_plain_refusal ws ≡ 0 → (history_refusal ws ≡ 0) × ((history_model ws).history ≡ [])
unfolding to_plain_refusal
plain_passed ws e =
    let h = (history_model ws).history in
    let p = first_passes (history_refusal ws) (cond (eqb (length h) 0) 0 has_records) e in
    (p.0, none_left h p.1)

without : (m : Model) → m.history ≡ [] → opened m.instance ≡ m
unfolding opened
without m q = ap (λ (h : List Replaced). record { instance = m.instance; history = h }) (sym q)

module _ (ws : List ℕ) (e : to_plain_refusal ws ≡ 0) where
  abbrev s : Instance
  s = (history_model ws).instance

  s_valid : valid_instance s ≡ true
  s_valid = valid_fields (history_model ws) (history_model_valid ws (plain_passed ws e).0)

  plain_reopens : card_refusal (as_plain_card ws) ≡ 0
  plain_reopens = written_opens s s_valid

  instance_same : instance_in (as_plain_card ws) ≡ s
  instance_same = let a = history_model_as_read ws in instance_back s s_valid a.weights_long a.marks_long a.elsewhere

  board_same : opened (instance_in (as_plain_card ws)) ≡ history_model ws
  board_same = ap opened instance_same ∙ without (history_model ws) (plain_passed ws e).1

  pub same_board_plain : model_in (as_plain_card ws) ≡ model_in ws
  same_board_plain =
      model_of_card (as_plain_card ws) (card_not_history (as_plain_card ws) plain_reopens) ∙ board_same
      ∙ sym (model_of_history ws (history_opens ws (plain_passed ws e).0).header.kind)

pub history_there_and_back : (ws : List ℕ) → are_bytes ws ≡ true → to_plain_refusal ws ≡ 0 → (card_refusal (as_plain_card ws) ≡ 0) × (as_history_card (as_plain_card ws) ≡ ws)
history_there_and_back ws b e =
    (plain_reopens ws e, ap history_card_of (board_same ws e) ∙ history_card_round_trip ws b (plain_passed ws e).0)
