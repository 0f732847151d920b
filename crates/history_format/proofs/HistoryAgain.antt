-- A history card that opens, read and written again, is the same bytes; the board that is read of it is valid, and as a
-- card is read. So is that of a card of either kind. Assumes nothing.
--
-- Part by part the bits of the card are those that are written of what was read: the six bits, the instance's
-- (InnerCard), the count's, the records' (HistoryLaws). What is left is fewer than eight zeros, which fill the last
-- byte.
use mathlib.Core.Path.{◌≡◌, refl, sym, ap, ◌∙◌}
use mathlib.Core.Bool.{true, false, ◌&&◌, cond}
use mathlib.Core.List.{List, [], ◌++◌, append_assoc}
use mathlib.Core.Logic.{⊎_elim}
use Prim.Native.Nat.{ℕ, ◌+◌, ◌*◌, ◌-◌, ◌<◌}
use native.Mathlib.Omega.{arith}
use native.Mathlib.Nat.{add-zero}
use lib.Dec.{ltb, leb, eqb}
use lib.ListN.{length, drop, length-append, take-append-drop}
use borrow.Author.Tests.{leb-false, eqb-true, le-leb}
use Rattle.base.specs.Lists.{all_of}
use Rattle.base.proofs.BoolLaws.{and_both, passed, passes_only, test}
use Rattle.base.proofs.AllOfLaws.{all_of_drop}
use Rattle.base.proofs.PartLaws.{zeros_are}
use Rattle.bits.specs.Bits.{bits_of, bits_in, field, are_bits, are_bytes}
use Rattle.bits.proofs.ByteLaws.{length_bits_in, bits_in_are_bits, packed_bits_in}
use Rattle.bits.proofs.FieldLaws.{field_written}
use Rattle.instance.specs.Limits.{max_records, no_arc, free, cells}
use Rattle.instance.specs.Refusals.{bad_filling}
use Rattle.instance.specs.Instance.{Instance}
use Rattle.instance.specs.Valid.{valid_instance}
use Rattle.card_format.specs.Widths.{weight_width, mark_width}
use Rattle.card_format.specs.Card.{n_in, root_in, bits_needed, instance_of_bits, instance_in, instance_bits}
use Rattle.card_format.specs.Offsets.{cell_field}
use Rattle.card_format.proofs.CellLaws.{length_fields, field_at}
use Rattle.card_format.proofs.OpensLaws.{card_valid}
use Rattle.commands.specs.Model.{Replaced, opened}
use Rattle.commands.specs.Valid.{record_ok, valid}
use Rattle.commands.proofs.ValidLaws.{opened_valid}
use Rattle.history_format.specs.RecordWidths.{marker_width, history_marker, count_width}
use Rattle.history_format.specs.HistoryCard.{is_history, behind_marker, behind_cells, count_in, history_in, history_model, end_refusal, history_refusal, open_refusal, model_in, records_bits, history_bits, history_bytes, history_card_of}
use Rattle.history_format.proofs.HeaderSteps.{HistoryOpens, history_opens}
use Rattle.history_format.proofs.InnerCard.{behind_marker_bits, inner_valid, inner_written}
use Rattle.history_format.proofs.HistoryLaws.{AllShaped, rest_in, history_length, history_shaped, rest_passes, history_ok, history_again}
use Rattle.history_format.proofs.ModelAgain.{AsRead}

-- what is left behind the records
end_passes : (bs : List ℕ) → end_refusal bs ≡ 0 → (length bs < 8) × (all_of (λ b. eqb b 0) bs ≡ true)
unfolding end_refusal
end_passes bs e =
    let p = passed (leb 8 (length bs)) 2 (cond (all_of (λ b. eqb b 0) bs) 0 bad_filling) e in
    (leb-false 8 (length bs) p.0, passes_only (all_of (λ b. eqb b 0) bs) 7 p.1)

behind_are_bits : (ws : List ℕ) → are_bits (drop count_width (behind_cells ws)) ≡ true
behind_are_bits ws =
    all_of_drop (λ b. ltb b 2) count_width (behind_cells ws)
    (all_of_drop (λ b. ltb b 2) (bits_needed (n_in (behind_marker ws))) (behind_marker ws) (behind_marker_bits ws))

module _ (ws : List ℕ) (o : HistoryOpens ws) where
  abbrev s : Instance
  s = instance_of_bits (behind_marker ws)

  abbrev k : ℕ
  k = count_in (behind_cells ws)

  abbrev records : List ℕ
  records = drop count_width (behind_cells ws)

  abbrev h : List Replaced
  h = history_in k records []

  abbrev rest : List ℕ
  rest = rest_in k records

  count_known : length h ≡ k
  count_known = history_length k records [] ∙ add-zero k

  -- THE BITS, from the last part to the first
  records_again : records_bits h ++ rest ≡ records
  unfolding records_bits
  records_again = history_again k s records [] (behind_are_bits ws) o.records_pass

  count_again : bits_of count_width (length h) ++ records ≡ behind_cells ws
  count_again =
      rw count_known
      (field_written 0 count_width (behind_cells ws) (all_of_drop (λ b. ltb b 2) (bits_needed (n_in (behind_marker ws))) (behind_marker ws) (behind_marker_bits ws)) o.counted)

  behind_marker_again : instance_bits s ++ behind_cells ws ≡ behind_marker ws
  behind_marker_again = rw (inner_written ws o.header o.cells_pass) (take-append-drop (bits_needed (n_in (behind_marker ws))) (behind_marker ws))

  marker_again : bits_of marker_width history_marker ++ behind_marker ws ≡ bits_in ws
  unfolding is_history
  marker_again =
      let q : field 0 marker_width (bits_in ws) ≡ history_marker = eqb-true (field 0 marker_width (bits_in ws)) history_marker o.header.kind in
      rw q at (field_written 0 marker_width (bits_in ws) (bits_in_are_bits ws) (omega (arith, length_bits_in ws, o.header.long)))

  all_again : history_bits (history_model ws) ++ rest ≡ bits_in ws
  unfolding history_bits history_model
  all_again = simp append_assoc (rw (records_again, count_again, behind_marker_again) marker_again)

  -- THE BYTES
  left : (length rest < 8) × (all_of (λ b. eqb b 0) rest ≡ true)
  left = end_passes rest (rest_passes k s records o.records_pass)

  all_long : length (history_bits (history_model ws)) + length rest ≡ 8 * length ws
  all_long = sym (length-append (history_bits (history_model ws)) rest) ∙ ap length all_again ∙ length_bits_in ws

  bytes_again : history_bytes (history_model ws) ≡ length ws
  unfolding history_bytes
  bytes_again = omega (arith, all_long, left.0)

  bytes_same : are_bytes ws ≡ true → history_card_of (history_model ws) ≡ ws
  unfolding history_card_of
  bytes_same b =
      let m = history_model ws in
      let l : 8 * history_bytes m - length (history_bits m) ≡ length rest = omega (arith, all_long, bytes_again) in
      rw (l, ← zeros_are rest left.1, all_again, bytes_again) (packed_bits_in ws b)

  -- THE BOARD
  board_valid : valid (history_model ws) ≡ true
  unfolding valid history_model all_of
  board_valid =
      and_both (valid_instance s) (leb (length h) max_records && all_of (record_ok s) h) (inner_valid ws o.header o.cells_pass)
      (and_both (leb (length h) max_records) (all_of (record_ok s) h) (le-leb (length h) max_records (omega (arith, count_known, o.few)))
      (history_ok k s records [] o.records_pass refl))

pub history_card_round_trip : (ws : List ℕ) → are_bytes ws ≡ true → history_refusal ws ≡ 0 → history_card_of (history_model ws) ≡ ws
history_card_round_trip ws b e = bytes_same ws (history_opens ws e) b

pub history_model_valid : (ws : List ℕ) → history_refusal ws ≡ 0 → valid (history_model ws) ≡ true
history_model_valid ws e = board_valid ws (history_opens ws e)

-- the records are of a board's types, and the instance is as a card is read, whatever the bytes
pub history_model_shaped : (ws : List ℕ) → AllShaped (history_model ws).history
unfolding history_model
history_model_shaped ws = history_shaped (count_in (behind_cells ws)) (drop count_width (behind_cells ws)) [] (behind_are_bits ws) tt

pub bits_as_read : (bs : List ℕ) → AsRead (instance_of_bits bs)
unfolding cell_field
bits_as_read bs =
    let n = n_in bs in
    let r = root_in bs in
    record {
      weights_long = length_fields 0 weight_width no_arc n r bs;
      marks_long = length_fields weight_width mark_width free n r bs;
      elsewhere = λ i l q.
          (field_at 0 weight_width no_arc n r bs i no_arc l ∙ rw q, field_at weight_width mark_width free n r bs i free l ∙ rw q);
    }

pub history_model_as_read : (ws : List ℕ) → AsRead (history_model ws).instance
unfolding history_model
history_model_as_read ws = bits_as_read (behind_marker ws)

pub card_as_read : (ws : List ℕ) → AsRead (instance_in ws)
unfolding instance_in
card_as_read ws = bits_as_read (bits_in ws)

-- BOTH KINDS
module _ (ws : List ℕ) where
  pub model_of_history : is_history ws ≡ true → model_in ws ≡ history_model ws
  unfolding model_in
  model_of_history q = rw q

  pub model_of_card : is_history ws ≡ false → model_in ws ≡ opened (instance_in ws)
  unfolding model_in
  model_of_card q = rw q

  pub model_in_valid : open_refusal ws ≡ 0 → valid (model_in ws) ≡ true
  unfolding open_refusal
  model_in_valid e =
      ⊎_elim (λ (q : is_history ws ≡ true). rw (model_of_history q) (history_model_valid ws (rw q at e)))
      (λ (q : is_history ws ≡ false). rw (model_of_card q) (opened_valid (instance_in ws) (card_valid ws (rw q at e)))) (test (is_history ws))

  pub model_in_shaped : AllShaped (model_in ws).history
  unfolding opened
  model_in_shaped =
      ⊎_elim (λ (q : is_history ws ≡ true). rw (model_of_history q) (history_model_shaped ws))
      (λ (q : is_history ws ≡ false). rw (model_of_card q) tt) (test (is_history ws))

  pub model_in_as_read : AsRead (model_in ws).instance
  unfolding opened
  model_in_as_read =
      ⊎_elim (λ (q : is_history ws ≡ true). rw (model_of_history q) (history_model_as_read ws))
      (λ (q : is_history ws ≡ false). rw (model_of_card q) (card_as_read ws)) (test (is_history ws))

  pub model_in_long : length (model_in ws).instance.marks ≡ cells
  model_in_long = model_in_as_read.marks_long
