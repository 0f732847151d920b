-- Every valid board, written as a history card and opened again, is the same board, records and all, and its card
-- opens. One whose instance is as a card is read comes back exactly. Assumes nothing.
--
-- Behind the six bits the card has the bits of the instance, as the plain card of the instance has them. What is read
-- of them does not depend on what follows: so the instance that is read is that of the plain card, whose laws are in
-- card_format. Behind it the count is read, then the records (HistoryLaws), and fewer than eight zeros are left.
use mathlib.Core.Path.{◌≡◌, refl, sym, ap, ◌∙◌}
use mathlib.Core.Bool.{true, false, cond}
use mathlib.Core.List.{List, [], ◌++◌, append-nil}
use Prim.Native.Nat.{ℕ, ◌*◌, ◌-◌, ◌^◌, ◌≤◌, ◌<◌}
use native.Mathlib.Omega.{arith}
use native.Mathlib.Nat.{add-zero, mod-eq_of_lt}
use lib.Dec.{eqb}
use lib.ListN.{length, drop, replicate, length-append, length-replicate}
use lib.Seq.{drop_at}
use borrow.Author.Tests.{le-ltb, lt-leb, ne_eqb}
use Rattle.base.specs.Lists.{all_of}
use Rattle.base.proofs.AllOfLaws.{all_of_eq}
use Rattle.base.proofs.PartLaws.{all_of_replicate}
use Rattle.bits.specs.Bits.{bits_of}
use Rattle.bits.proofs.NumberLaws.{length_bits_of}
use Rattle.bits.proofs.FieldLaws.{field_read}
use Rattle.instance.specs.Limits.{max_vertices, max_budget, no_arc, free, max_records, cells}
use Rattle.instance.specs.Instance.{Instance, weight_at, mark_at}
use Rattle.instance.specs.Valid.{valid_instance}
use Rattle.instance.specs.Same.{SameInstance}
use Rattle.card_format.specs.Widths.{n_width, root_width}
use Rattle.card_format.specs.Card.{n_in, root_in, budget_in, on_card, bits_needed, min_card, instance_of_bits, instance_in, cells_refusal, instance_bits, filling_bits, card_of}
use Rattle.card_format.proofs.LengthLaws.{length_known}
use Rattle.card_format.proofs.OffsetLaws.{offset_end}
use Rattle.card_format.proofs.WrittenBits.{length_instance_bits, card_bits_in}
use Rattle.card_format.proofs.OpensLaws.{opens, marks_long}
use Rattle.card_format.proofs.InstanceAgain.{written_opens, instance_round_trip, instance_back}
use Rattle.commands.specs.Model.{Replaced, Model}
use Rattle.commands.specs.Valid.{record_ok, valid}
use Rattle.commands.specs.SameBoard.{SameBoard}
use Rattle.commands.proofs.ValidLaws.{Valid, valid_fields, valid_parts}
use Rattle.commands.proofs.SameBoardLaws.{record_ok_same}
use Rattle.history_format.specs.RecordWidths.{marker_width, history_marker, count_width}
use Rattle.history_format.specs.HistoryCard.{behind_marker, behind_cells, count_in, history_in, history_model, end_refusal, records_refusal, behind_refusal, history_header_refusal, history_refusal, records_bits, history_bits, history_bytes, history_card_of}
use Rattle.history_format.proofs.FirstBits.{field_front, instance_front}
use Rattle.history_format.proofs.HistoryLaws.{AllWritable, AllShaped, all_writable, history_read, refusal_read}
use Rattle.history_format.proofs.HistoryBits.{length_history_bits, history_filling, bytes_room, filling_short, length_history_card, written_bits_in, history_kind_again}

-- THE BITS OF AN INSTANCE, whatever follows them, are read as its plain card is
module _ (s : Instance) (e : valid_instance s ≡ true) (few : s.n ≤ max_vertices) (inner : s.root < s.n) where
  card_instance : instance_in (card_of s) ≡ instance_of_bits (instance_bits s ++ filling_bits s.n)
  unfolding instance_in
  card_instance = ap (λ (bs : List ℕ). instance_of_bits bs) (card_bits_in s few inner)

  n_written : n_in (instance_bits s) ≡ s.n
  n_written =
      let k = length_known s.n few in
      sym (field_front 0 n_width (instance_bits s) (filling_bits s.n) (omega (arith, length_instance_bits s few inner, k.header)))
      ∙ sym (ap (λ (i : Instance). i.n) card_instance)
      ∙ (instance_round_trip s e).same_n

  root_written : root_in (instance_bits s) ≡ s.root
  root_written =
      let k = length_known s.n few in
      sym (field_front n_width root_width (instance_bits s) (filling_bits s.n) (omega (arith, length_instance_bits s few inner, k.header)))
      ∙ sym (ap (λ (i : Instance). i.root) card_instance)
      ∙ (instance_round_trip s e).same_root

  followed : (zs : List ℕ) → instance_of_bits (instance_bits s ++ zs) ≡ instance_of_bits (instance_bits s)
  followed zs =
      let k = length_known s.n few in
      instance_front (instance_bits s) zs (omega (arith, length_instance_bits s few inner, k.header))
      (rw (n_written, root_written) (omega (arith, length_instance_bits s few inner, offset_end s.n s.root few inner)))

  pub instance_followed : (zs : List ℕ) → instance_of_bits (instance_bits s ++ zs) ≡ instance_in (card_of s)
  instance_followed zs = followed zs ∙ sym (followed (filling_bits s.n)) ∙ sym card_instance

-- AS A CARD IS READ: lists of 1,024 cells, and no arc and free in each that can never be an arc
pub record AsRead (s : Instance) : Type 0 where
  pub weights_long : length s.weights ≡ cells
  pub marks_long : length s.marks ≡ cells
  pub elsewhere : (i : ℕ) → i < cells → on_card s.n s.root i ≡ false → (weight_at s i ≡ no_arc) × (mark_at s i ≡ free)

-- what fills the last byte passes
zeros_pass : (k : ℕ) → k < 8 → end_refusal (replicate k 0) ≡ 0
unfolding end_refusal
zeros_pass k h =
    rw (length-replicate {A = ℕ} k 0, lt-leb 8 k h, all_of_replicate (λ b. eqb b 0) k 0 refl)

module _ (m : Model) (e : valid m ≡ true) (shaped : AllShaped m.history) where
  abbrev s : Instance
  s = m.instance

  abbrev h : List Replaced
  h = m.history

  abbrev ws : List ℕ
  ws = history_card_of m

  -- the instance that is read
  abbrev t : Instance
  t = instance_in (card_of s)

  v : Valid m
  v = valid_parts m e

  s_valid : valid_instance s ≡ true
  s_valid = valid_fields m e

  same : SameInstance t s
  same = instance_round_trip s s_valid

  fits : AllWritable h
  fits = all_writable s h v.n_high v.records_ok shaped

  -- THE PARTS OF THE CARD: what stands behind the count, and behind the cells
  abbrev records : List ℕ
  records = records_bits h ++ history_filling m

  abbrev rest : List ℕ
  rest = bits_of count_width (length h) ++ records

  behind_marker_written : behind_marker ws ≡ instance_bits s ++ rest
  behind_marker_written = rw (written_bits_in m) (drop_at (bits_of marker_width history_marker) (instance_bits s ++ rest) marker_width (length_bits_of marker_width history_marker))

  instance_read : instance_of_bits (behind_marker ws) ≡ t
  instance_read = ap (λ (bs : List ℕ). instance_of_bits bs) behind_marker_written ∙ instance_followed s s_valid v.n_high v.root_below rest

  n_read : n_in (behind_marker ws) ≡ s.n
  n_read = ap (λ (i : Instance). i.n) instance_read ∙ same.same_n

  root_read : root_in (behind_marker ws) ≡ s.root
  root_read = ap (λ (i : Instance). i.root) instance_read ∙ same.same_root

  budget_read : budget_in (behind_marker ws) ≡ s.budget
  budget_read = ap (λ (i : Instance). i.budget) instance_read ∙ same.same_budget

  behind_written : behind_cells ws ≡ rest
  behind_written =
      rw (n_read, behind_marker_written) (drop_at (instance_bits s) rest (bits_needed s.n) (length_instance_bits s v.n_high v.root_below))

  count_read : count_in (behind_cells ws) ≡ length h
  count_read =
      let l : length h < 2 ^ count_width = omega (arith, v.few) in
      rw behind_written (field_read [] records 0 count_width (length h) refl ∙ mod-eq_of_lt l)

  records_written : drop count_width (behind_cells ws) ≡ records
  records_written = rw behind_written (drop_at (bits_of count_width (length h)) records count_width (length_bits_of count_width (length h)))

  -- READ
  history_same : history_in (count_in (behind_cells ws)) (drop count_width (behind_cells ws)) [] ≡ h
  unfolding history_in
  history_same =
      rw (count_read, records_written) (rw (add-zero (length h), append-nil h) at (history_read h 0 (history_filling m) [] fits))

  -- JUDGED
  written_long : min_card ≤ length ws
  written_long =
      let k = length_known s.n v.n_high in
      omega (arith, length_history_card m, bytes_room m, length_history_bits m v.n_high v.root_below, k.header)

  behind_marker_long : bits_needed s.n ≤ length (behind_marker ws)
  behind_marker_long = rw behind_marker_written (omega (arith, length-append (instance_bits s) rest, length_instance_bits s v.n_high v.root_below))

  header_passes : (x : ℕ) → history_header_refusal ws x ≡ x
  unfolding history_header_refusal
  header_passes x =
      let low = v.n_low in
      let some : s.n ≡ 0 → ⊥ = λ z. omega arith in
      rw (
        le-ltb (length ws) min_card written_long,
        history_kind_again m,
        n_read,
        root_read,
        budget_read,
        ne_eqb s.n 0 some,
        le-ltb max_vertices s.n v.n_high,
        le-ltb (length (behind_marker ws)) (bits_needed s.n) behind_marker_long,
        lt-leb s.n s.root v.root_below,
        le-ltb max_budget s.budget v.budget_most,
      )

  cells_pass : cells_refusal t.weights t.marks ≡ 0
  unfolding instance_in
  cells_pass = (opens (card_of s) (written_opens s s_valid)).cells_pass

  records_ok : all_of (record_ok t) h ≡ true
  records_ok = all_of_eq (record_ok t) (record_ok s) (record_ok_same t s same) h ∙ v.records_ok

  records_pass : records_refusal (length h) t records ≡ 0
  unfolding records_refusal
  records_pass =
      let z = 8 * history_bytes m - length (history_bits m) in
      let short = rw (length-replicate {A = ℕ} z 0) at (filling_short m) in
      rw (add-zero (length h)) at (refusal_read t h 0 (history_filling m) fits records_ok) ∙ zeros_pass z short

  behind_passes : behind_refusal t (behind_cells ws) ≡ 0
  unfolding behind_refusal
  behind_passes =
      let long : count_width ≤ length (behind_cells ws) =
      rw behind_written (omega (arith, length-append (bits_of count_width (length h)) records, length_bits_of count_width (length h))) in
      rw (
        le-ltb (length (behind_cells ws)) count_width long,
        count_read,
        records_written,
        le-ltb max_records (length h) v.few,
      ) records_pass

  rest_passes : (x : Instance) → x ≡ t → cond (eqb (cells_refusal x.weights x.marks) 0) (behind_refusal x (behind_cells ws)) (cells_refusal x.weights x.marks) ≡ 0
  rest_passes x q = rw (q, cells_pass) behind_passes

  pub history_opens_again : history_refusal ws ≡ 0
  unfolding history_refusal
  history_opens_again = header_passes _ ∙ rest_passes (instance_of_bits (behind_marker ws)) instance_read

  -- THE ROUND TRIP
  pub history_round_trip : length s.marks ≡ cells → SameBoard (history_model ws) m
  unfolding history_model
  history_round_trip long =
      record {
        same_instances = rw instance_read same;
        same_sizes = ap (λ (x : Instance). length x.marks) instance_read ∙ marks_long (card_of s) ∙ sym long;
        same_history = history_same;
      }

  pub model_back : AsRead s → history_model ws ≡ m
  unfolding history_model
  model_back a =
      let b : instance_of_bits (behind_marker ws) ≡ s = instance_read ∙ instance_back s s_valid a.weights_long a.marks_long a.elsewhere in
      rw (b, history_same)
