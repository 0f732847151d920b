-- The plain card within a history card. Taken out of it (its bits taken, filled with zeros, packed into bytes) it is a
-- card that the old definitions judge and read alike: so what is proved of plain cards holds of it. Its instance is the
-- one that the history card is read as, its refusal that of the cells, and the instance's bits are the ones that stood
-- on the card. Assumes nothing.
use mathlib.Core.Path.{◌≡◌, refl, sym, ap, ◌∙◌}
use mathlib.Core.Bool.{true, not, cond}
use mathlib.Core.List.{List, ◌++◌}
use Prim.Native.Nat.{ℕ, zero, suc, ◌+◌, ◌*◌, ◌-◌, ◌≤◌, ◌<◌}
use native.Mathlib.Omega.{arith}
use lib.Dec.{ltb, eqb}
use lib.Pow.{pow_mono}
use lib.ListN.{length, take, drop, length-append, length-take, length-replicate, take-append-drop}
use lib.Seq.{take_at, drop_at, length-take-le}
use borrow.Author.Tests.{lt-ltb, le-ltb, lt-leb, eq-eqb, ne_eqb}
use Rattle.base.specs.Lists.{all_of}
use Rattle.base.proofs.BoolLaws.{and_both}
use Rattle.base.proofs.AllOfLaws.{all_of_take, all_of_drop}
use Rattle.base.proofs.PartLaws.{all_of_replicate}
use Rattle.bits.specs.Bits.{bits_in, number_from, field, packed, are_bits, are_bytes}
use Rattle.bits.proofs.NumberLaws.{number_below, are_bits_append, zeros_are_bits}
use Rattle.bits.proofs.ByteLaws.{bits_in_are_bits, length_packed, bits_in_packed}
use Rattle.instance.specs.Instance.{Instance}
use Rattle.instance.specs.Valid.{valid_instance}
use Rattle.card_format.specs.Widths.{n_width, root_width, budget_width, header_width}
use Rattle.card_format.specs.Card.{n_in, root_in, budget_in, bits_needed, bytes_needed, min_card, instance_of_bits, instance_in, cells_refusal, header_refusal, card_refusal, instance_bits, filling_bits, card_of}
use Rattle.card_format.proofs.LengthLaws.{length_known}
use Rattle.card_format.proofs.OpensLaws.{card_valid}
use Rattle.card_format.proofs.WrittenBits.{length_instance_bits, instance_are_bits}
use Rattle.card_format.proofs.CardAgain.{card_round_trip}
use Rattle.history_format.specs.RecordWidths.{marker_width}
use Rattle.history_format.specs.HistoryCard.{behind_marker}
use Rattle.history_format.proofs.FirstBits.{field_front, instance_front}
use Rattle.history_format.proofs.HeaderSteps.{HistoryHeaderKnown}

-- the bits of the plain card: "the bits of the old card without filling"
abbrev pub inner_bits : (card : List ℕ) → List ℕ
inner_bits ws = take (bits_needed (n_in (behind_marker ws))) (behind_marker ws)

-- and the plain card that has these bits
unfoldable pub inner_card : (card : List ℕ) → List ℕ
inner_card ws = let n = n_in (behind_marker ws) in packed (bytes_needed n) (inner_bits ws ++ filling_bits n)

-- bits are packed into bytes
packed_bytes : (k : ℕ) (bs : List ℕ) → are_bits bs ≡ true → are_bytes (packed k bs) ≡ true
unfolding packed all_of
packed_bytes zero bs e = refl
packed_bytes (suc k) bs e =
    let t = all_of_take (λ b. ltb b 2) 8 bs e in
    let l : length (take 8 bs) ≤ 8 = omega (arith, length-take 8 bs) in
    let h : number_from 0 (take 8 bs) < 256 = omega (arith, number_below (take 8 bs) t, pow_mono l) in
    and_both (ltb (number_from 0 (take 8 bs)) 256) (are_bytes (packed k (drop 8 bs))) (lt-ltb (number_from 0 (take 8 bs)) 256 h)
    (packed_bytes k (drop 8 bs) (all_of_drop (λ b. ltb b 2) 8 bs e))

or_zero : (c : ℕ) → cond (not (eqb c 0)) c 0 ≡ c
or_zero zero = refl
or_zero (suc c) = rw (ne_eqb (suc c) 0 (λ z. omega arith))

pub behind_marker_bits : (ws : List ℕ) → are_bits (behind_marker ws) ≡ true
behind_marker_bits ws = all_of_drop (λ b. ltb b 2) marker_width (bits_in ws) (bits_in_are_bits ws)

module _ (ws : List ℕ) (h : HistoryHeaderKnown ws) where
  abbrev n : ℕ
  n = n_in (behind_marker ws)

  abbrev s : Instance
  s = instance_of_bits (behind_marker ws)

  -- THE BITS
  pub inner_long : length (inner_bits ws) ≡ bits_needed n
  inner_long = length-take-le (bits_needed n) (behind_marker ws) h.fits

  inner_are_bits : are_bits (inner_bits ws) ≡ true
  inner_are_bits = all_of_take (λ b. ltb b 2) (bits_needed n) (behind_marker ws) (behind_marker_bits ws)

  whole_long : (bs : List ℕ) → length bs ≡ bits_needed n → length (bs ++ filling_bits n) ≡ 8 * bytes_needed n
  whole_long bs e =
      let k = length_known n h.n_high in
      length-append bs (filling_bits n) ∙ omega (arith, e, length-replicate {A = ℕ} (8 * bytes_needed n - bits_needed n) 0, k.whole)

  whole_are_bits : (bs : List ℕ) → are_bits bs ≡ true → are_bits (bs ++ filling_bits n) ≡ true
  whole_are_bits bs e = are_bits_append bs (filling_bits n) e (zeros_are_bits (8 * bytes_needed n - bits_needed n))

  pub inner_bits_in : bits_in (inner_card ws) ≡ inner_bits ws ++ filling_bits n
  unfolding inner_card
  inner_bits_in =
      bits_in_packed (bytes_needed n) (inner_bits ws ++ filling_bits n) (whole_long (inner_bits ws) inner_long)
      (whole_are_bits (inner_bits ws) inner_are_bits)

  pub length_inner : length (inner_card ws) ≡ bytes_needed n
  unfolding inner_card
  length_inner = length_packed (bytes_needed n) (inner_bits ws ++ filling_bits n)

  -- READ ALIKE
  -- the bits that stood on the card, and those that followed them
  split : inner_bits ws ++ drop (bits_needed n) (behind_marker ws) ≡ behind_marker ws
  split = take-append-drop (bits_needed n) (behind_marker ws)

  -- a field of the header
  header_field : (a w : ℕ) → a + w ≤ header_width → field a w (inner_bits ws) ≡ field a w (behind_marker ws)
  header_field a w l =
      let k = length_known n h.n_high in
      sym (field_front a w (inner_bits ws) (drop (bits_needed n) (behind_marker ws)) (omega (arith, inner_long, k.header)))
      ∙ ap (λ (bs : List ℕ). field a w bs) split

  inner_field : (a w : ℕ) → a + w ≤ header_width → field a w (bits_in (inner_card ws)) ≡ field a w (behind_marker ws)
  inner_field a w l =
      let k = length_known n h.n_high in
      ap (λ (bs : List ℕ). field a w bs) inner_bits_in
      ∙ field_front a w (inner_bits ws) (filling_bits n) (omega (arith, inner_long, k.header))
      ∙ header_field a w l

  pub inner_n : n_in (bits_in (inner_card ws)) ≡ n
  inner_n = inner_field 0 n_width (omega arith)

  pub inner_root : root_in (bits_in (inner_card ws)) ≡ root_in (behind_marker ws)
  inner_root = inner_field n_width root_width (omega arith)

  pub inner_budget : budget_in (bits_in (inner_card ws)) ≡ budget_in (behind_marker ws)
  inner_budget = inner_field (n_width + root_width) budget_width (omega arith)

  -- what the bits say whatever follows them
  followed : (zs : List ℕ) → instance_of_bits (inner_bits ws ++ zs) ≡ instance_of_bits (inner_bits ws)
  followed zs =
      let k = length_known n h.n_high in
      instance_front (inner_bits ws) zs (omega (arith, inner_long, k.header))
      (rw (header_field 0 n_width (omega arith), header_field n_width root_width (omega arith)) (omega (arith, inner_long, h.end)))

  pub inner_instance : instance_in (inner_card ws) ≡ s
  unfolding instance_in
  inner_instance =
      ap (λ (bs : List ℕ). instance_of_bits bs) inner_bits_in
      ∙ followed (filling_bits n)
      ∙ sym (followed (drop (bits_needed n) (behind_marker ws)))
      ∙ ap (λ (bs : List ℕ). instance_of_bits bs) split

  -- JUDGED ALIKE
  inner_filled : drop (bits_needed n) (bits_in (inner_card ws)) ≡ filling_bits n
  inner_filled = rw inner_bits_in (drop_at (inner_bits ws) (filling_bits n) (bits_needed n) inner_long)

  pub inner_refusal : card_refusal (inner_card ws) ≡ cells_refusal s.weights s.marks
  unfolding card_refusal header_refusal
  inner_refusal =
      let k = length_known n h.n_high in
      let long : min_card ≤ bytes_needed n = omega (arith, k.header, k.whole) in
      let low = h.n_low in
      let some : n ≡ 0 → ⊥ = λ z. omega arith in
      rw inner_instance
      (simp (
        length_inner,
        inner_n,
        inner_root,
        inner_budget,
        inner_filled,
        le-ltb _ _ long,
        ne_eqb _ _ some,
        le-ltb _ _ h.n_high,
        eq-eqb (bytes_needed n) (bytes_needed n) refl,
        lt-leb _ _ h.root_low,
        le-ltb _ _ h.budget_low,
        all_of_replicate (λ b. eqb b 0) (8 * bytes_needed n - bits_needed n) 0 refl,
      ) (or_zero (cells_refusal s.weights s.marks)))

  -- WRITTEN ALIKE
  module _ (pass : cells_refusal s.weights s.marks ≡ 0) where
    inner_opens : card_refusal (inner_card ws) ≡ 0
    inner_opens = inner_refusal ∙ pass

    pub inner_valid : valid_instance s ≡ true
    inner_valid = rw inner_instance at (card_valid (inner_card ws) inner_opens)

    again : card_of s ≡ inner_card ws
    unfolding inner_card
    again =
        rw inner_instance at
        (card_round_trip (inner_card ws) (packed_bytes (bytes_needed n) (inner_bits ws ++ filling_bits n) (whole_are_bits (inner_bits ws) inner_are_bits)) inner_opens)

    written_bits_in : bits_in (card_of s) ≡ instance_bits s ++ filling_bits n
    unfolding card_of
    written_bits_in =
        bits_in_packed (bytes_needed n) (instance_bits s ++ filling_bits n) (whole_long (instance_bits s) (length_instance_bits s h.n_high h.root_low))
        (whole_are_bits (instance_bits s) (instance_are_bits s))

    -- the bits of what is read are those that stood on the card
    pub inner_written : instance_bits s ≡ inner_bits ws
    inner_written =
        let e : instance_bits s ++ filling_bits n ≡ inner_bits ws ++ filling_bits n =
        sym written_bits_in ∙ ap (λ (c : List ℕ). bits_in c) again ∙ inner_bits_in in
        sym (take_at (instance_bits s) (filling_bits n) (bits_needed n) (length_instance_bits s h.n_high h.root_low))
        ∙ ap (λ (bs : List ℕ). take (bits_needed n) bs) e
        ∙ take_at (inner_bits ws) (filling_bits n) (bits_needed n) inner_long
