-- Lists of records on a card, both ways: a history is read as it was written, whatever follows it, and one that was
-- read is written as the bits it was read from. Assumes nothing.
--
-- The latest record is first in a history and last on a card. So a history is read by induction with more records to
-- come behind it: when the earlier ones have been read, the latest is the next.
use mathlib.Core.Path.{◌≡◌, refl, sym, ap, ◌∙◌}
use mathlib.Core.Bool.{true}
use mathlib.Core.List.{List, [], ◌∷◌, ◌++◌, append_assoc}
use Prim.Native.Nat.{ℕ, zero, suc, ◌+◌, ◌*◌, ◌≤◌}
use native.Mathlib.Omega.{arith}
use native.Mathlib.Nat.{zero-add}
use lib.Dec.{ltb}
use lib.ListN.{length, drop, length-append}
use Rattle.base.specs.Lists.{all_of}
use Rattle.base.proofs.AllOfLaws.{all_of_drop, all_of_first, all_of_rest, all_of_more}
use Rattle.bits.specs.Bits.{are_bits}
use Rattle.instance.specs.Limits.{max_vertices}
use Rattle.instance.specs.Instance.{Instance}
use Rattle.card_format.proofs.CellLaws.{first_passes}
use Rattle.commands.specs.Model.{Replaced}
use Rattle.commands.specs.Valid.{record_ok}
use Rattle.history_format.specs.RecordBits.{record_length, replaced_in, form_refusal, record_refusal, record_bits}
use Rattle.history_format.specs.HistoryCard.{history_in, end_refusal, records_refusal, records_bits}
use Rattle.history_format.proofs.RecordFits.{Shaped, Writable, ok_writable, read_shaped}
use Rattle.history_format.proofs.RecordLaws.{record_read, record_again}
use Rattle.history_format.proofs.RecordLength.{longest_valid, record_short, refusal_passed}

-- EVERY RECORD of a history fits, or is of a board's types
abbrev pub AllWritable : List Replaced → Type 0
AllWritable [] = Unit
AllWritable (o ∷ os) = Writable o × AllWritable os

abbrev pub AllShaped : List Replaced → Type 0
AllShaped [] = Unit
AllShaped (o ∷ os) = Shaped o × AllShaped os

pub all_writable : (s : Instance) (h : List Replaced) → s.n ≤ max_vertices → all_of (record_ok s) h ≡ true → AllShaped h → AllWritable h
all_writable s [] few e a = tt
all_writable s (o ∷ os) few e a =
    (ok_writable s o few (all_of_first (record_ok s) o os e) a.0, all_writable s os few (all_of_rest (record_ok s) o os e) a.1)

pub records_short : (s : Instance) (h : List Replaced) → s.n ≤ max_vertices → all_of (record_ok s) h ≡ true →
    length (records_bits h) ≤ longest_valid * length h
unfolding records_bits
records_short s [] few e = omega arith
records_short s (o ∷ os) few e =
    let a = record_short s o few (all_of_first (record_ok s) o os e) in
    let b = records_short s os few (all_of_rest (record_ok s) o os e) in
    omega (arith, a, b, length-append (records_bits os) (record_bits o))

-- READ as it was written
pub history_read : (h : List Replaced) (j : ℕ) (zs : List ℕ) (acc : List Replaced) → AllWritable h →
    history_in (length h + j) (records_bits h ++ zs) acc ≡ history_in j zs (h ++ acc)
unfolding history_in records_bits
history_read [] j zs acc w = rw (zero-add j)
history_read (o ∷ os) j zs acc w =
    let r = record_read o zs w.0 in
    let e : suc (length os) + j ≡ length os + suc j = omega arith in
    rw (e, append_assoc (records_bits os) (record_bits o) zs)
    (history_read os (suc j) (record_bits o ++ zs) acc w.1 ∙ rw (r.rest, r.same))

module _ (s : Instance) where
  passes : (bs : List ℕ) → form_refusal bs ≡ 0 → record_ok s (replaced_in bs) ≡ true → record_refusal s bs ≡ 0
  unfolding record_refusal
  passes bs f r = rw (f, r)

  next_refusal : (k : ℕ) (bs : List ℕ) → record_refusal s bs ≡ 0 → records_refusal (suc k) s bs ≡ records_refusal k s (drop (record_length bs) bs)
  unfolding records_refusal
  next_refusal k bs e = rw e

  pub refusal_read : (h : List Replaced) (j : ℕ) (zs : List ℕ) → AllWritable h → all_of (record_ok s) h ≡ true →
      records_refusal (length h + j) s (records_bits h ++ zs) ≡ records_refusal j s zs
  unfolding records_bits
  refusal_read [] j zs w p = rw (zero-add j)
  refusal_read (o ∷ os) j zs w p =
      let r = record_read o zs w.0 in
      let ok : record_ok s (replaced_in (record_bits o ++ zs)) ≡ true = rw r.same (all_of_first (record_ok s) o os p) in
      let e : suc (length os) + j ≡ length os + suc j = omega arith in
      rw (e, append_assoc (records_bits os) (record_bits o) zs)
      (refusal_read os (suc j) (record_bits o ++ zs) w.1 (all_of_rest (record_ok s) o os p)
      ∙ next_refusal j (record_bits o ++ zs) (passes (record_bits o ++ zs) r.passes ok) ∙ rw r.rest)

-- WRITTEN as the bits it was read from
-- what is left behind so many records
unfoldable pub rest_in : (left : ℕ) → (bits : List ℕ) → List ℕ
rest_in zero bs = bs
rest_in (suc k) bs = rest_in k (drop (record_length bs) bs)

pub history_length : (k : ℕ) (bs : List ℕ) (acc : List Replaced) → length (history_in k bs acc) ≡ k + length acc
unfolding history_in
history_length zero bs acc = sym (zero-add (length acc))
history_length (suc k) bs acc =
    let r = history_length k (drop (record_length bs) bs) (replaced_in bs ∷ acc) in
    omega arith

pub history_shaped : (k : ℕ) (bs : List ℕ) (acc : List Replaced) → are_bits bs ≡ true → AllShaped acc → AllShaped (history_in k bs acc)
unfolding history_in
history_shaped zero bs acc e a = a
history_shaped (suc k) bs acc e a =
    let d = record_length bs in
    history_shaped k (drop d bs) (replaced_in bs ∷ acc) (all_of_drop (λ b. ltb b 2) d bs e) (read_shaped bs e, a)

-- the first of several records passes, and so do the others
pub one_passed : (k : ℕ) (s : Instance) (bs : List ℕ) → records_refusal (suc k) s bs ≡ 0 →
    (record_refusal s bs ≡ 0) × (records_refusal k s (drop (record_length bs) bs) ≡ 0)
unfolding records_refusal
one_passed k s bs e = first_passes (record_refusal s bs) (records_refusal k s (drop (record_length bs) bs)) e

pub rest_passes : (k : ℕ) (s : Instance) (bs : List ℕ) → records_refusal k s bs ≡ 0 → end_refusal (rest_in k bs) ≡ 0
unfolding rest_in records_refusal
rest_passes zero s bs e = e
rest_passes (suc k) s bs e = rest_passes k s (drop (record_length bs) bs) (one_passed k s bs e).1

pub history_ok : (k : ℕ) (s : Instance) (bs : List ℕ) (acc : List Replaced) → records_refusal k s bs ≡ 0 → all_of (record_ok s) acc ≡ true →
    all_of (record_ok s) (history_in k bs acc) ≡ true
unfolding history_in
history_ok zero s bs acc e a = a
history_ok (suc k) s bs acc e a =
    let p = one_passed k s bs e in
    let r = (refusal_passed s bs p.0).1 in
    history_ok k s (drop (record_length bs) bs) (replaced_in bs ∷ acc) p.1 (all_of_more (record_ok s) (replaced_in bs) acc r a)

pub history_again : (k : ℕ) (s : Instance) (bs : List ℕ) (acc : List Replaced) → are_bits bs ≡ true → records_refusal k s bs ≡ 0 →
    records_bits (history_in k bs acc) ++ rest_in k bs ≡ records_bits acc ++ bs
unfolding history_in rest_in records_bits
history_again zero s bs acc e r = refl
history_again (suc k) s bs acc e r =
    let d = record_length bs in
    let p = one_passed k s bs r in
    let a = record_again bs e (refusal_passed s bs p.0).0 in
    history_again k s (drop d bs) (replaced_in bs ∷ acc) (all_of_drop (λ b. ltb b 2) d bs e) p.1
    ∙ append_assoc (records_bits acc) (record_bits (replaced_in bs)) (drop d bs) ∙ ap (λ (l : List ℕ). records_bits acc ++ l) a
