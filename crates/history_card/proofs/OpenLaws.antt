-- How the three steps of opening, the header, the cells and what stands behind them, make up what a card opens as.
-- Assumes nothing.
use mathlib.Core.Path.{◌≡◌, refl, sym, ap, ◌∙◌}
use mathlib.Core.Bool.{true}
use mathlib.Core.List.{List, []}
use Prim.Native.Nat.{ℕ, zero, suc, ◌+◌, ◌*◌, ◌≤◌}
use native.Mathlib.Omega.{arith}
use lib.ListN.{length, drop, replicate, length-drop}
use lib.Seq.{drop-drop}
use borrow.Author.Tests.{le-ltb, ne_eqb}
use Rattle.std.specs.Prelude.{Ok, Err}
use Rattle.bits.specs.Bits.{bits_in}
use Rattle.bits.proofs.ByteLaws.{length_bits_in}
use Rattle.instance.specs.Limits.{max_vertices, max_records, cells}
use Rattle.instance.specs.RefusalNumbers.{refusal_number}
use Rattle.instance.specs.declared.refusals.Refusal.{Refusal}
use Rattle.instance.specs.Instance.{Instance}
use Rattle.instance.specs.Matrix.{unmarked}
use Rattle.card_format.specs.Card.{n_in, bits_needed, min_card, max_card, instance_of_bits, cells_refusal}
use Rattle.card_format.specs.Offsets.{offset}
use Rattle.card_format.proofs.LengthLaws.{length_known}
use Rattle.card.specs.Read.{fields_refusal, HeaderRead}
use Rattle.card.specs.Cells.{CellsRead}
use Rattle.card.specs.declared.read.Header.{Header}
use Rattle.card.specs.declared.cells.Cells.{Cells}
use Rattle.instance.proofs.RefusalLaws.{eqb_0}
use Rattle.commands.specs.Model.{Replaced}
use Rattle.commands.specs.Valid.{record_ok}
use Rattle.commands.proofs.ValidLaws.{record_ok_of}
use Rattle.board.specs.ModelOf.{blank_record}
use Rattle.board.specs.Create.{stored, board-of, opened_as, opening_of}
use Rattle.board.specs.declared.Board.{Board}
use Rattle.board.specs.declared.UndoRecord.{UndoRecord}
use Rattle.history_format.specs.RecordWidths.{marker_width, count_width}
use Rattle.history_format.specs.RecordBits.{record_length, replaced_in, record_refusal}
use Rattle.history_format.specs.HistoryCard.{is_history, behind_marker, behind_cells, count_in, history_model, records_refusal, behind_refusal, history_header_refusal, history_refusal}
use Rattle.history_format.proofs.HeaderSteps.{HistoryHeaderKnown, history_header_known, history_rest, history_by_steps}
use Rattle.history_format.proofs.HistoryLaws.{history_length}
use Rattle.history_format.proofs.HistoryAgain.{bits_as_read}
use Rattle.history_card.specs.Records.{CountRead, RecordsRead}
use Rattle.history_card.specs.Open.{history_opened}
use Rattle.history_card.proofs.RecordsLaws.{CountPassed, count_refused, count_passed}

-- THE HEADER: 4 and 5 are left to judge
pub fields_last : (ws : List ℕ) → min_card ≤ length ws → is_history ws ≡ true → (n_in (behind_marker ws) ≡ 0 → ⊥) → n_in (behind_marker ws) ≤ max_vertices →
    bits_needed (n_in (behind_marker ws)) ≤ length (behind_marker ws) → fields_refusal (n_in (behind_marker ws)) (behind_marker ws) ≡ history_header_refusal ws 0
unfolding fields_refusal history_header_refusal
fields_last ws l kind low high fits = rw (le-ltb _ _ l, kind, ne_eqb _ _ low, le-ltb _ _ high, le-ltb _ _ fits)

-- THE RECORDS are judged by the arcs alone, so the marks and the budget do not matter
module _ (s t : Instance) (same : (o : Replaced) → record_ok s o ≡ record_ok t o) where
  records_alike : (k : ℕ) (bs : List ℕ) → records_refusal k s bs ≡ records_refusal k t bs
  unfolding records_refusal record_refusal
  records_alike zero bs = refl
  records_alike (suc k) bs = rw (same (replaced_in bs), records_alike k (drop (record_length bs) bs))

  behind_alike : (bs : List ℕ) → behind_refusal s bs ≡ behind_refusal t bs
  unfolding behind_refusal
  behind_alike bs = rw (records_alike (count_in bs) (drop count_width bs))

-- REFUSED
refused : (ws : List ℕ) (e : Refusal) → refusal_number e ≡ history_refusal ws → opening_of (Err e) ≡ history_opened ws
unfolding history_opened opened_as
refused ws e q = rw (← q, eqb_0 e)

pub header_refused : (ws : List ℕ) (e : Refusal) → HeaderRead (history_header_refusal ws 0) (n_in (behind_marker ws)) (behind_marker ws) (Err e) →
    opening_of (Err e) ≡ history_opened ws
header_refused ws e q = refused ws e (sym (history_by_steps ws ∙ simp (← q.judged, eqb_0 e)))

module _ (ws : List ℕ) (h : Header) (q : HeaderRead (history_header_refusal ws 0) (n_in (behind_marker ws)) (behind_marker ws) (Ok h)) where
  abbrev S : Instance
  S = instance_of_bits (behind_marker ws)

  passes : history_header_refusal ws 0 ≡ 0
  passes = sym q.judged

  known : HistoryHeaderKnown ws
  known = history_header_known ws passes

  after_header : history_refusal ws ≡ history_rest ws
  after_header = history_by_steps ws ∙ simp passes

  -- the cells end within the card
  pub record Room : Type 0 where
    pub inside : marker_width + offset h.n h.root cells ≤ 8 * length ws
    pub small : offset h.n h.root cells ≤ 8 * max_card
    pub few : h.n ≤ max_vertices

  pub its_room : Room
  its_room =
      let k = known in
      let w = length_known (n_in (behind_marker ws)) k.n_high in
      let l = length-drop marker_width (bits_in ws) in
      let e : offset h.n h.root cells ≡ bits_needed (n_in (behind_marker ws)) = rw q.fields k.end in
      let f = w.header in
      record {
        inside = omega (arith, k.fits, length_bits_in ws);
        small = omega (arith, w.most);
        few = rw q.fields k.n_high;
      }

  pub cells_refused : (e : Refusal) → CellsRead (bits_in ws) marker_width h.n h.root (Err e) → opening_of (Err e) ≡ history_opened ws
  cells_refused e k =
      let j : cells_refusal S.weights S.marks ≡ refusal_number e = sym (k.judged ∙ rw q.fields) in
      refused ws e (sym (after_header ∙ simp (j, eqb_0 e)))

  module _ (c : Cells) (k : CellsRead (bits_in ws) marker_width h.n h.root (Ok c)) where
    its_judged : cells_refusal S.weights S.marks ≡ 0
    its_judged = sym (k.judged ∙ rw q.fields)

    its_rest : drop c.end (bits_in ws) ≡ behind_cells ws
    its_rest =
        let e : c.end ≡ marker_width + bits_needed (n_in (behind_marker ws)) = k.last_end ∙ rw (q.fields, known.end) in
        rw e (sym (drop-drop (bits_needed (n_in (behind_marker ws))) marker_width (bits_in ws)))

    same_weights : c.weights ≡ S.weights
    same_weights = k.all_weights ∙ rw q.fields

    pub cells_long : length c.weights ≡ cells
    cells_long = ap length same_weights ∙ (bits_as_read (behind_marker ws)).weights_long

    same_marks : c.marks ≡ S.marks
    same_marks = k.all_marks ∙ rw q.fields

    -- what is left to judge is judged by the arcs alone
    abbrev U : Instance
    U = unmarked h.n h.root c.weights

    after_cells : history_refusal ws ≡ behind_refusal U (drop c.end (bits_in ws))
    after_cells =
        let a : history_rest ws ≡ behind_refusal S (behind_cells ws) = simp its_judged in
        let b : behind_refusal U (drop c.end (bits_in ws)) ≡ behind_refusal S (behind_cells ws) =
        rw (its_rest, q.fields, same_weights) (behind_alike (unmarked S.n S.root S.weights) S (record_ok_of S) (behind_cells ws)) in
        after_header ∙ a ∙ sym b

    pub count_unfit : (e : Refusal) → CountRead (drop c.end (bits_in ws)) (Err e) → opening_of (Err e) ≡ history_opened ws
    count_unfit e t = refused ws e (sym (after_cells ∙ count_refused U (drop c.end (bits_in ws)) e t))

    module _ (t : ℕ) (t' : CountRead (drop c.end (bits_in ws)) (Ok t)) where
      passed : CountPassed U (drop c.end (bits_in ws)) t
      passed = count_passed U (drop c.end (bits_in ws)) t t'

      -- the records have room, and are not too many
      pub record RecordsRoom : Type 0 where
        pub inside : c.end + count_width ≤ 8 * length ws
        pub few : t ≤ max_records

      pub records_room : RecordsRoom
      records_room =
          let p = passed.long in
          record { inside = omega (arith, length-drop c.end (bits_in ws), length_bits_in ws); few = passed.few }

      abbrev rest : List ℕ
      rest = drop (c.end + count_width) (bits_in ws)

      same_rest : rest ≡ drop count_width (behind_cells ws)
      same_rest = sym (drop-drop count_width c.end (bits_in ws)) ∙ ap (drop count_width) its_rest

      same_count : t ≡ count_in (behind_cells ws)
      same_count = passed.same ∙ ap count_in its_rest

      after_count : history_refusal ws ≡ records_refusal t U rest
      after_count =
          let d = drop-drop count_width c.end (bits_in ws) in
          after_cells ∙ passed.rest ∙ rw d

      pub records_refused : (e : Refusal) → RecordsRead (records_refusal t U rest) t rest (Err e) → opening_of (Err e) ≡ history_opened ws
      records_refused e x = refused ws e (x.judged ∙ sym after_count)

      pub all_opened : (rs : List UndoRecord) → RecordsRead (records_refusal t U rest) t rest (Ok rs) → (b : Board) →
          b ≡ record { n = h.n; root = h.root; budget = h.budget; weights = c.weights; marks = c.marks; records = rs; count = t } →
          opening_of (Ok b) ≡ history_opened ws
      unfolding history_opened opened_as board-of history_model
      all_opened rs x b e =
          let z : history_refusal ws ≡ 0 = after_count ∙ sym x.judged in
          let r : rs ≡ stored (history_model ws).history (replicate max_records blank_record) = x.all_records ∙ rw (same_rest, same_count) in
          let m : t ≡ length (history_model ws).history =
          same_count ∙ sym (history_length (count_in (behind_cells ws)) (drop count_width (behind_cells ws)) [] ∙ omega arith) in
          rw (e, z, r, m, same_weights, same_marks, q.fields)
