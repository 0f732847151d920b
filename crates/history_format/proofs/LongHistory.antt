-- Bytes that are more than any card of either kind has: they are refused, and by the first 5,175 of them
-- alike, so the first bytes of a long input answer for all of it. Assumes nothing.
--
-- The bits of the first bytes are followed by those of the others. Header and cells lie within the first bits, which
-- are 41,400 at least: they are read alike, and so is the count. Behind it there are 20,208 bits at least, which is
-- what 200 records can take and a byte: so the records are judged alike, and where they pass, whole bytes remain on
-- either side.
use mathlib.Core.Path.{◌≡◌, refl, sym, ap, ◌∙◌}
use mathlib.Core.Bool.{Bool, true, false, ◌||◌, not, cond}
use mathlib.Core.List.{List, ◌++◌}
use mathlib.Core.Logic.{⊎_elim}
use Prim.Native.Nat.{ℕ, suc, ◌+◌, ◌≤◌, ◌<◌}
use native.Mathlib.Omega.{arith}
use lib.Dec.{ltb, eqb}
use lib.ListN.{length, take, drop, length-append, length-take, length-drop, take-append-drop}
use lib.Seq.{drop-append-le}
use borrow.Author.Tests.{ltb-false, le-ltb}
use Rattle.base.proofs.BoolLaws.{or_false_right, test}
use Rattle.base.proofs.AllOfLaws.{all_of_drop}
use Rattle.bits.specs.Bits.{bits_in, are_bits}
use Rattle.bits.proofs.ByteLaws.{length_bits_in, bits_in_append}
use Rattle.instance.specs.Limits.{max_vertices, max_records}
use Rattle.instance.specs.Refusals.{bad_count, bad_length}
use Rattle.instance.specs.Instance.{Instance}
use Rattle.card_format.specs.Widths.{n_width, root_width, budget_width}
use Rattle.card_format.specs.Card.{n_in, bits_needed, min_card, instance_of_bits, cells_refusal}
use Rattle.card_format.proofs.LengthLaws.{most_bits, needed_most}
use Rattle.card_format.proofs.TooLong.{too_long_refused, too_long_by_part}
use Rattle.history_format.specs.RecordWidths.{marker_width, count_width}
use Rattle.history_format.specs.HistoryCard.{is_history, behind_marker, behind_cells, count_in, max_history_card, behind_refusal, history_header_refusal, history_refusal, open_refusal}
use Rattle.history_format.proofs.FirstBits.{field_front, instance_front}
use Rattle.history_format.proofs.HeaderSteps.{HistoryHeaderKnown, history_header_known, rest_of, history_rest, history_by_steps, history_opens}
use Rattle.history_format.proofs.InnerCard.{behind_marker_bits}
use Rattle.history_format.proofs.FirstRecords.{room, first_alike, records_refused, behind_front}

-- WHAT IS LEFT of so many bytes
module _ (vs : List ℕ) (h : max_history_card < length vs) where
  -- behind the six bits
  behind_marker_long : most_bits + count_width + room max_records ≤ length (behind_marker vs)
  behind_marker_long = rw (length-drop marker_width (bits_in vs)) (omega (arith, length_bits_in vs))

  -- behind the cells
  behind_long : n_in (behind_marker vs) ≤ max_vertices → count_width + room max_records ≤ length (behind_cells vs)
  behind_long few =
      rw (length-drop (bits_needed (n_in (behind_marker vs))) (behind_marker vs)) (omega (arith, behind_marker_long, needed_most (n_in (behind_marker vs)) few))

  behind_are_bits : are_bits (behind_cells vs) ≡ true
  behind_are_bits = all_of_drop (λ b. ltb b 2) (bits_needed (n_in (behind_marker vs))) (behind_marker vs) (behind_marker_bits vs)

  history_refused : history_refusal vs ≡ 0 → ⊥
  history_refused e =
      let o = history_opens vs e in
      let few = o.few in
      let long = behind_long o.header.n_high in
      records_refused (instance_of_bits (behind_marker vs)) o.header.n_high (count_in (behind_cells vs)) (drop count_width (behind_cells vs))
      (all_of_drop (λ b. ltb b 2) count_width (behind_cells vs) behind_are_bits) (rw (length-drop count_width (behind_cells vs)) (omega arith)) o.records_pass

chain : (k b c d : Bool) (x : ℕ) → (b ≡ false → c ≡ d) →
    cond k bad_count (cond b bad_count (cond c bad_length x)) ≡ cond k bad_count (cond b bad_count (cond d bad_length x))
chain true b c d x h = refl
chain false true c d x h = refl
chain false false c d x h = rw (h refl)

-- THE SAME REFUSAL, where the bits of the first bytes are followed by others
module _ (ws vs zs : List ℕ) (e : bits_in ws ≡ bits_in vs ++ zs) (hw : max_history_card < length ws) (hv : max_history_card < length vs) where
  kind_alike : is_history ws ≡ is_history vs
  unfolding is_history
  kind_alike = rw (e, field_front 0 marker_width (bits_in vs) zs (omega (arith, length_bits_in vs)))

  behind_marker_front : behind_marker ws ≡ behind_marker vs ++ zs
  behind_marker_front = rw e (drop-append-le marker_width (bits_in vs) zs (omega (arith, length_bits_in vs)))

  n_front : n_in (behind_marker vs ++ zs) ≡ n_in (behind_marker vs)
  n_front = field_front 0 n_width (behind_marker vs) zs (omega (arith, behind_marker_long vs hv))

  both_fit : eqb (n_in (behind_marker vs)) 0 || ltb max_vertices (n_in (behind_marker vs)) ≡ false →
      ltb (length (behind_marker vs ++ zs)) (bits_needed (n_in (behind_marker vs))) ≡ ltb (length (behind_marker vs)) (bits_needed (n_in (behind_marker vs)))
  both_fit q =
      let n = n_in (behind_marker vs) in
      let few = needed_most n (ltb-false max_vertices n (or_false_right (eqb n 0) (ltb max_vertices n) q)) in
      let long = behind_marker_long vs hv in
      rw (le-ltb (length (behind_marker vs)) (bits_needed n) (omega arith)) (le-ltb (length (behind_marker vs ++ zs)) (bits_needed n) (omega (arith, length-append (behind_marker vs) zs)))

  header_alike : history_header_refusal ws 0 ≡ history_header_refusal vs 0
  unfolding history_header_refusal
  header_alike =
      let bs = behind_marker vs in
      let n = n_in bs in
      rw (
        le-ltb (length ws) min_card (omega arith),
        le-ltb (length vs) min_card (omega arith),
        kind_alike,
        behind_marker_front,
        n_front,
        field_front n_width root_width bs zs (omega (arith, behind_marker_long vs hv)),
        field_front (n_width + root_width) budget_width bs zs (omega (arith, behind_marker_long vs hv)),
      )
      (chain (not (is_history vs)) (eqb n 0 || ltb max_vertices n) (ltb (length (bs ++ zs)) (bits_needed n)) (ltb (length bs) (bits_needed n)) _ both_fit)

  rest_alike : HistoryHeaderKnown vs → history_rest ws ≡ history_rest vs
  rest_alike h =
      let bs = behind_marker vs in
      let n = n_in bs in
      let s : instance_of_bits (behind_marker ws) ≡ instance_of_bits bs = rw behind_marker_front (instance_front bs zs (omega (arith, behind_marker_long vs hv)) (omega (arith, h.end, h.fits))) in
      let b : behind_cells ws ≡ behind_cells vs ++ zs = rw (behind_marker_front, n_front) (drop-append-le (bits_needed n) bs zs h.fits) in
      let r : behind_refusal (instance_of_bits bs) (behind_cells ws) ≡ behind_refusal (instance_of_bits bs) (behind_cells vs) =
      rw b (behind_front (instance_of_bits bs) h.n_high (behind_cells vs) zs (behind_are_bits vs hv) (behind_long vs hv h.n_high)) in
      ap (λ (i : Instance). rest_of i (behind_cells ws)) s
      ∙ ap (λ (x : ℕ). let c = cells_refusal (instance_of_bits bs).weights (instance_of_bits bs).marks in cond (eqb c 0) x c) r

  history_alike : history_refusal ws ≡ history_refusal vs
  history_alike =
      let k = history_header_refusal vs 0 in
      let r : cond (eqb k 0) (history_rest ws) k ≡ cond (eqb k 0) (history_rest vs) k =
      first_alike k (history_rest ws) (history_rest vs) (λ z. rest_alike (history_header_known vs z)) in
      rw (history_by_steps ws, history_by_steps vs, header_alike) r

-- ANY CARD
pub long_refused : (ws : List ℕ) → max_history_card < length ws → open_refusal ws ≡ 0 → ⊥
unfolding open_refusal
long_refused ws h e =
    ⊎_elim (λ (q : is_history ws ≡ true). history_refused ws h (rw q at e)) (λ (q : is_history ws ≡ false). too_long_refused ws (omega arith) (rw q at e))
    (test (is_history ws))

-- what is read of it may end anywhere behind the longest card
pub long_by_part : (ws : List ℕ) (k : ℕ) → max_history_card ≤ k → max_history_card < length ws → open_refusal ws ≡ open_refusal (take (suc k) ws)
unfolding open_refusal
long_by_part ws k hk h =
    let vs = take (suc k) ws in
    let zs = bits_in (drop (suc k) ws) in
    let e : bits_in ws ≡ bits_in vs ++ zs = ap (λ (l : List ℕ). bits_in l) (sym (take-append-drop (suc k) ws)) ∙ bits_in_append vs (drop (suc k) ws) in
    let part = length-take (suc k) ws in
    let hv : max_history_card < length vs = omega arith in
    rw (kind_alike ws vs zs e h hv, history_alike ws vs zs e h hv, too_long_by_part ws k (omega arith) (omega arith))
