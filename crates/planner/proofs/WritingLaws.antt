-- The ways of every call that stores a card: refused by what is wrong with the board or the card; by a buffer that is
-- too short (14), which is looked at last, so that an empty one changes no other refusal; or the card in front of the
-- buffer. And the writes of a board by them: 15, 14. Assumes nothing.
use mathlib.Core.Path.{◌≡◌, refl, ap, ◌∙◌}
use mathlib.Core.Bool.{Bool, true, false, cond}
use mathlib.Core.List.{List}
use Prim.Native.Nat.{ℕ, ◌≤◌, ◌<◌}
use native.Mathlib.Omega.{arith}
use lib.Dec.{ltb, eqb}
use lib.ListN.{length}
use borrow.Author.Tests.{eqb-true, eqb-false, ltb-true, ltb-false, le-ltb}
use Rattle.base.specs.Lists.{in_front}
use Rattle.instance.specs.Limits.{max_vertices}
use Rattle.instance.specs.Instance.{Instance}
use Rattle.instance.specs.Refusals.{buffer_short, invalid_board}
use Rattle.card_format.specs.Card.{bytes_needed, max_card, card_of}
use Rattle.card_format.proofs.LengthLaws.{longest_card, length_card_of}
use Rattle.card.specs.Write.{written_to, buffer_after}
use Rattle.card.specs.Write.{Written}
use Rattle.commands.specs.Valid.{valid}
use Rattle.board.specs.ModelOf.{model_of, instance_of}
use Rattle.board.specs.declared.Board.{Board}
use Rattle.history_format.specs.HistoryCard.{history_bytes, history_card_of}
use Rattle.history_format.proofs.HistoryBits.{length_history_card}
use Rattle.history_card.specs.Write.{history_written_to, history_buffer_after}
use Rattle.planner.specs.Writing.{Writes, WritesHistory}

abbrev pub wrote_with : (answer length : ℕ) → Written
wrote_with a k = record { answer = a; length = k }

-- THE THREE WAYS, by the number that refuses the board or the card (0 if none does) and the card that is to be stored.
-- A refusal leaves the buffer as it was.
pub data StoreCase (refusal : ℕ) (card out out' : List ℕ) (r : Written) : Type 0 where
  refused_by : (refusal ≡ 0 → ⊥) → r ≡ wrote_with refusal 0 → out' ≡ out → StoreCase refusal card out out' r
  no_room : refusal ≡ 0 → length out < length card → r ≡ wrote_with buffer_short 0 → out' ≡ out → StoreCase refusal card out out' r
  put : refusal ≡ 0 → length card ≤ length out → r ≡ wrote_with 0 (length card) → out' ≡ in_front card out → StoreCase refusal card out out' r

-- from the equations of a call: k refuses, and m is the length of the card
pub store_by : (k m : ℕ) (card out out' : List ℕ) (r : Written) → length card ≡ m
    → r ≡ cond (eqb k 0) (cond (ltb (length out) m) (wrote_with buffer_short 0) (wrote_with 0 m)) (wrote_with k 0)
    → out' ≡ cond (eqb k 0) (cond (ltb (length out) m) out (in_front card out)) out → StoreCase k card out out' r
store_by k m card out out' r e = go (eqb k 0) refl (ltb (length out) m) refl
  where
    go : (b : Bool) → eqb k 0 ≡ b → (t : Bool) → ltb (length out) m ≡ t
        → r ≡ cond {A = Written} b (cond t (wrote_with buffer_short 0) (wrote_with 0 m)) (wrote_with k 0)
        → out' ≡ cond b (cond t out (in_front card out)) out → StoreCase k card out out' r
    go true z true l p q = let s = ltb-true (length out) m l in no_room (eqb-true k 0 z) (omega arith) p q
    go true z false l p q = let s = ltb-false (length out) m l in put (eqb-true k 0 z) (omega arith) (rw e p) q
    go false z t l p q = refused_by (eqb-false k 0 z) p q

-- A BOARD
abbrev pub board_refusal : Board → ℕ
board_refusal b = cond (valid (model_of b)) 0 invalid_board

board_by : (v : Bool) (m : ℕ) (card out out' : List ℕ) (r : Written) → length card ≡ m
    → r ≡ cond v (cond (ltb (length out) m) (wrote_with buffer_short 0) (wrote_with 0 m)) (wrote_with invalid_board 0)
    → out' ≡ cond v (cond (ltb (length out) m) out (in_front card out)) out → StoreCase (cond v 0 invalid_board) card out out' r
board_by true m card out out' r e p q = store_by 0 m card out out' r e p q
board_by false m card out out' r e p q = store_by invalid_board m card out out' r e p q

pub write_cases : (b : Board) (r : Written) (out out' : List ℕ) → Writes b out out' r → StoreCase (board_refusal b) (card_of (instance_of b)) out out' r
unfolding written_to buffer_after
write_cases b r out out' w =
    let s = instance_of b in
    board_by (valid (model_of b)) (bytes_needed b.n) (card_of s) out out' r (length_card_of s) w.result w.buffer

-- records and all
pub history_write_cases : (b : Board) (r : Written) (out out' : List ℕ) → WritesHistory b out out' r →
    StoreCase (board_refusal b) (history_card_of (model_of b)) out out' r
unfolding history_written_to history_buffer_after
history_write_cases b r out out' w =
    let m = model_of b in
    board_by (valid m) (history_bytes m) (history_card_of m) out out' r (length_history_card m) w.result w.buffer

-- a write of an instance in range into room for the longest card is refused by nothing
pub written_answer : (s : Instance) (r : Written) (out : List ℕ) → s.n ≤ max_vertices → max_card ≤ length out → r ≡ written_to s out → r.answer ≡ 0
unfolding written_to
written_answer s r out l h e =
    let m = longest_card s.n l in
    let q : written_to s out ≡ wrote_with 0 (bytes_needed s.n) = rw (le-ltb (length out) (bytes_needed s.n) (omega arith)) in
    ap (λ (x : Written). x.answer) (e ∙ q)
