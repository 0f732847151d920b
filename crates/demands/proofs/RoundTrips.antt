-- The round trips of the calls themselves: "A read card written back yields the same bytes; a written board read back
-- has equal positions, root and budget and, where a link can be, equal prices and marks." Of a board that was reached
-- from a card by a run of calls the second holds of every cell: where no link can be, card and board hold the same.
-- Boards that are called equal are written alike. Assumes nothing.
use mathlib.Core.Path.{◌≡◌, refl, sym, ap, ◌∙◌, subst}
use mathlib.Core.Bool.{true, false, cond}
use mathlib.Core.List.{List}
use Prim.Native.Nat.{ℕ, ◌/◌, ◌%◌, ◌≤◌, ◌<◌}
use native.Mathlib.Omega.{arith}
use lib.Dec.{ltb}
use lib.ListN.{length, take}
use borrow.Author.Tests.{le-ltb}
use Rattle.base.specs.Lists.{in_front}
use Rattle.base.proofs.FrontLaws.{front_take}
use Rattle.base.proofs.ListLaws.{length_tabulate}
use Rattle.bits.specs.Bits.{are_bytes}
use Rattle.instance.specs.Limits.{no_arc, free, cells}
use Rattle.instance.specs.Refusals.{invalid_board}
use Rattle.instance.specs.Instance.{Instance, weight_at, mark_at, is_arc}
use Rattle.instance.specs.Same.{SameInstance}
use Rattle.instance.specs.Valid.{valid_instance}
use Rattle.card_format.specs.Card.{card_refusal, instance_in, on_card, bytes_needed, card_of}
use Rattle.card.specs.Write.{written_to, buffer_after}
use Rattle.card.specs.Write.{Written}
use Rattle.card_format.proofs.OpensLaws.{opened_length}
use Rattle.card_format.proofs.CardAgain.{card_round_trip}
use Rattle.card_format.proofs.InstanceAgain.{written_opens, instance_round_trip, instance_back}
use Rattle.card_format.proofs.SameCard.{same_card}
use Rattle.commands.specs.Valid.{valid}
use Rattle.commands.specs.Commands.{Command}
use Rattle.commands.specs.Model.{Model, opened}
use Rattle.commands.specs.Log.{Log, log_after}
use Rattle.commands.specs.LogLists.{Input}
use Rattle.commands.specs.Effective.{effective}
use Rattle.commands.specs.SameBoard.{SameBoard}
use Rattle.commands.proofs.ValidLaws.{Valid, valid_fields, valid_parts}
use Rattle.commands.proofs.LogListsLaws.{input_commands, input_after_commands}
use Rattle.commands.proofs.EffectiveLaws.{OnArcs, new_on_arcs, log_on_arcs, effective_cell_elsewhere}
use Rattle.commands.proofs.SameBoardLaws.{same_valid}
use Rattle.board.specs.ModelOf.{model_of, instance_of}
use Rattle.board.specs.declared.Board.{Board}
use Rattle.board.specs.declared.Answered.{Answered}
use Rattle.history_format.specs.HistoryCard.{is_history, open_refusal, model_in}
use Rattle.history_format.proofs.ModelAgain.{AsRead}
use Rattle.history_format.proofs.HistoryAgain.{model_in_valid, model_of_card, model_in_as_read}
use Rattle.history_format.proofs.Moves.{card_not_history, plain_card_opens}
use Rattle.planner.specs.Opening.{opened_from}
use Rattle.planner.specs.Replaying.{log_in}
use Rattle.planner.proofs.Learnt.{OpenedBy, opened_by, Wrote, wrote}
use Rattle.planner.proofs.OpeningLaws.{opened_starts, opened_answer, opened_instance}
use Rattle.planner.proofs.WritingLaws.{board_refusal, StoreCase, refused_by, no_room, put, write_cases}
use Rattle.demands.proofs.CallNumbers.{stores_passed, board_passed}
use Rattle.demands.proofs.Runs.{Run, run_follows}

-- FROM A CARD AND BACK
pub record SameCard (ws out out' : List ℕ) (r : Written) : Type 0 where
  pub result : r ≡ record { answer = 0; length = length ws }
  pub buffer : out' ≡ in_front ws out

written_card : (ws : List ℕ) (s : Instance) (r : Written) (out out' : List ℕ) → s ≡ instance_in ws → are_bytes ws ≡ true → card_refusal ws ≡ 0
    → length ws ≤ length out → r ≡ written_to s out → out' ≡ buffer_after s out → SameCard ws out out' r
unfolding written_to buffer_after
written_card ws s r out out' e y z h p q =
    let l = opened_length ws z in
    let long : ltb (length out) (bytes_needed (instance_in ws).n) ≡ false = le-ltb (length out) (bytes_needed (instance_in ws).n) (omega arith) in
    record { result = p ∙ rw (e, long, ← l); buffer = q ∙ rw (e, long, card_round_trip ws y z) }

-- STORED: what a call that answers 0 has put in front is the card
pub in_buffer : {k : ℕ} {card out out' : List ℕ} {r : Written} → StoreCase k card out out' r → r.answer ≡ 0 → take r.length out' ≡ card
in_buffer (refused_by n p q) a = absurd (n (sym (ap (λ (x : Written). x.answer) p) ∙ a))
in_buffer (no_room z l p q) a = absurd (omega (arith, sym a ∙ ap (λ (x : Written). x.answer) p))
in_buffer {card = card} {out = out} (put z l p q) a = rw (q, ap (λ (x : Written). x.length) p) (front_take card out (length card) refl)

-- with room for it, nothing but a refusal of the board or the card comes before
pub in_front_of : {k : ℕ} {card out out' : List ℕ} {r : Written} → StoreCase k card out out' r → k ≡ 0 → length card ≤ length out → SameCard card out out' r
in_front_of (refused_by n p q) z h = absurd (n z)
in_front_of (no_room y l p q) z h = absurd (omega arith)
in_front_of (put y l p q) z h = record { result = p; buffer = q }

-- a plain card is judged and read by the old definitions
plain_card : (ws : List ℕ) → is_history ws ≡ false → (open_refusal ws ≡ card_refusal ws) × ((model_in ws).instance ≡ instance_in ws)
unfolding open_refusal opened
plain_card ws k = (rw k, ap (λ (m : Model). m.instance) (model_of_card ws k))

-- of a plain card; of a history card it is `history_card_back`
pub card_back : {ws : List ℕ} {o : Answered} {r : Written} {out out' : List ℕ} → are_bytes ws ≡ true → is_history ws ≡ false → OpenedBy ws o → o.answer ≡ 0
    → Wrote o.board out out' r → length ws ≤ length out → SameCard ws out out' r
card_back {ws} {o} {r} {out} {out'} y k p a w h =
    let e = opened_by p in
    let z = sym (opened_answer ws o e) ∙ a in
    let good = (opened_starts ws o e z).good in
    let c = plain_card ws k in
    written_card ws (instance_of o.board) r out out' (opened_instance ws o e z ∙ c.1) y (sym c.0 ∙ z) h ((wrote w).result ∙ rw good) ((wrote w).buffer ∙ rw good)

-- FROM A BOARD AND BACK
-- what was written, and can be opened again, is the board's card
pub record Stored (b : Board) (ws : List ℕ) : Type 0 where
  pub fields : valid_instance (instance_of b) ≡ true
  pub card : ws ≡ card_of (instance_of b)

stored_card : {b : Board} {r : Written} {out out' : List ℕ} → Wrote b out out' r → r.answer ≡ 0 → Stored b (take r.length out')
stored_card {b} {r} {out} {out'} w z =
    let c = write_cases b r out out' (wrote w) in
    record { fields = valid_fields (model_of b) (board_passed b (stores_passed (board_refusal b) (card_of (instance_of b)) out out' r c z)); card = in_buffer c z }

-- opening it gives the board's instance as the card tells it
reopened : (b : Board) (ws : List ℕ) (o : Answered) → Stored b ws → o ≡ opened_from ws → (o.answer ≡ 0) × (instance_of o.board ≡ instance_in (card_of (instance_of b)))
reopened b ws o c e =
    let z : card_refusal ws ≡ 0 = ap card_refusal c.card ∙ written_opens (instance_of b) c.fields in
    let y = plain_card_opens ws z in
    (opened_answer ws o e ∙ y, opened_instance ws o e y ∙ (plain_card ws (card_not_history ws z)).1 ∙ ap instance_in c.card)

pub record SameFields (b : Board) (o : Answered) : Type 0 where
  pub opens : o.answer ≡ 0
  pub same : SameInstance (instance_of o.board) (instance_of b)

pub board_back : {b : Board} {r : Written} {out out' : List ℕ} {o : Answered} → Wrote b out out' r → r.answer ≡ 0 → OpenedBy (take r.length out') o → SameFields b o
board_back {b} {r} {out} {out'} {o} w z p =
    let c = stored_card w z in
    let e = reopened b (take r.length out') o c (opened_by p) in
    record { opens = e.0; same = subst (λ (x : Instance). SameInstance x (instance_of b)) (sym e.1) (instance_round_trip (instance_of b) c.fields) }

-- FROM A RUN AND BACK, exactly
no_arc_off : (s : Instance) (i : ℕ) → on_card s.n s.root i ≡ false → is_arc s (i / 32) (i % 32) ≡ false
unfolding on_card is_arc
no_arc_off s i e = rw e

-- whatever commands were made on a card that opens, a cell that can never be an arc is as the card has it
module _ (ws : List ℕ) (z : open_refusal ws ≡ 0) (cs : List Command) where
  abbrev S : Instance
  S = (model_in ws).instance

  abbrev after : Log
  after = log_after cs (log_in ws)

  parts : Valid (model_in ws)
  parts = valid_parts (model_in ws) (model_in_valid ws z)

  changed : OnArcs S after
  changed = log_on_arcs S parts.n_high cs (log_in ws) (new_on_arcs S (model_in ws).history parts.records_ok)

  off_card : (i : ℕ) → i < cells → on_card (effective after).n (effective after).root i ≡ false → (weight_at (effective after) i ≡ no_arc) × (mark_at (effective after) i ≡ free)
  unfolding effective
  off_card i l q =
      let off : on_card S.n S.root i ≡ false = rw (changed.card.n, changed.card.root) at q in
      let none = (model_in_as_read ws).elsewhere i l off in
      (rw changed.card.weights none.0, effective_cell_elsewhere S parts.n_high (model_in ws).history parts.records_ok cs i l (no_arc_off S i off) ∙ none.1)

  pub reached_as_read : AsRead (effective after)
  unfolding effective
  reached_as_read =
      record {
        weights_long = ap length changed.card.weights ∙ (model_in_as_read ws).weights_long;
        marks_long = length_tabulate cells _;
        elsewhere = off_card;
      }

  reached_back : valid_instance (effective after) ≡ true → instance_in (card_of (effective after)) ≡ effective after
  reached_back v = instance_back (effective after) v reached_as_read.weights_long reached_as_read.marks_long reached_as_read.elsewhere

pub run_back : {ws : List ℕ} {o : Answered} {is : List Input} {xs : List ℕ} {last : Board} {r : Written} {out out' : List ℕ} {q : Answered} → open_refusal ws ≡ 0
    → OpenedBy ws o → Run is o.board xs last → Wrote last out out' r → r.answer ≡ 0 → OpenedBy (take r.length out') q → instance_of q.board ≡ instance_of last
run_back {ws} {o} {is} {xs} {last} {r} {out} {out'} {q} z p run w a u =
    let s = opened_starts ws o (opened_by p) z in
    let k = log_in ws in
    let f = run_follows run k (record { is_valid = s.good; tied = s.tied }) in
    let cs = input_commands is k in
    let same = f.follows.tied.same_instance ∙ ap effective (input_after_commands is k) in
    let c = stored_card w a in
    let e = reopened last (take r.length out') q c (opened_by u) in
    e.1 ∙ ap (λ (x : Instance). instance_in (card_of x)) same ∙ reached_back ws z cs (subst (λ (x : Instance). valid_instance x ≡ true) same c.fields) ∙ sym same

-- BOARDS THAT ARE CALLED EQUAL are written alike
pub same_write : {a b : Board} {r q : Written} {out r' q' : List ℕ} → SameBoard (model_of a) (model_of b) → Wrote a out r' r → Wrote b out q' q → (r ≡ q) × (r' ≡ q')
unfolding written_to buffer_after
same_write {a} {b} {r} {q} {out} {r'} {q'} s x y =
    let v = same_valid (model_of a) (model_of b) s in
    let n = s.same_instances.same_n in
    let c = same_card (instance_of a) (instance_of b) s.same_instances in
    let refusal : Written = record { answer = invalid_board; length = 0 } in
    let same_result : cond (valid (model_of a)) (written_to (instance_of a) out) refusal ≡ cond (valid (model_of b)) (written_to (instance_of b) out) refusal = rw (v, n) in
    let same_buffer : cond (valid (model_of a)) (buffer_after (instance_of a) out) out ≡ cond (valid (model_of b)) (buffer_after (instance_of b) out) out = rw (c, v, n) in
    ((wrote x).result ∙ same_result ∙ sym (wrote y).result, (wrote x).buffer ∙ same_buffer ∙ sym (wrote y).buffer)
