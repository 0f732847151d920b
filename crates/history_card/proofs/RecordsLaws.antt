-- What reading the records gives: the loop goes through them as the definitions do, so what is left to read and to
-- judge would complete the whole; behind the last one whole bytes or the filling. Assumes nothing.
use mathlib.Core.Path.{◌≡◌, refl, sym, ap, ◌∙◌}
use mathlib.Core.Bool.{Bool, true, false, cond}
use mathlib.Core.List.{List, [], ◌∷◌}
use Prim.Native.Nat.{ℕ, suc, ◌+◌, ◌*◌, ◌-◌, ◌/◌, ◌≤◌, ◌<◌}
use native.Mathlib.Omega.{arith}
use native.Mathlib.Numerals.{add-one}
use native.Mathlib.Nat.{add-zero}
use lib.Dec.{ltb, eqb}
use lib.ListN.{length, set, drop, replicate, length-drop}
use lib.Seq.{drop-drop}
use borrow.Author.Tests.{ltb-false, lt-ltb, le-ltb, le-leb, lt-leb, eq-eqb, ne_eqb}
use Rattle.std.specs.Prelude.{Ok, Err}
use Rattle.bits.specs.Bits.{bits_in, field}
use Rattle.bits.proofs.ByteLaws.{length_bits_in}
use Rattle.bits.proofs.FieldLaws.{field_rest_zero, field_drop}
use Rattle.instance.specs.Limits.{max_records}
use Rattle.instance.specs.Refusals.{bad_length, bad_filling, bad_record}
use Rattle.instance.specs.RefusalNumbers.{refusal_number}
use Rattle.instance.specs.declared.refusals.Refusal.{Refusal}
use Rattle.instance.specs.declared.refusals.Refusal.TheVariants.{BadLength, BadRecord}
use Rattle.instance.specs.Instance.{Instance}
use Rattle.instance.proofs.RefusalLaws.{eqb_0}
use Rattle.commands.specs.Model.{Replaced}
use Rattle.board.specs.ModelOf.{blank_record}
use Rattle.board.specs.Create.{stored}
use Rattle.board.specs.declared.UndoRecord.{UndoRecord}
use Rattle.history_format.specs.RecordWidths.{count_width}
use Rattle.history_format.specs.RecordBits.{record_length, replaced_in, record_refusal}
use Rattle.history_format.specs.HistoryCard.{count_in, history_in, end_refusal, records_refusal, behind_refusal}
use Rattle.history_format.proofs.RecordLaws.{whole}
use Rattle.history_format.proofs.RecordLength.{longest_record, record_length_most, refusal_passed}
use Rattle.history_card.specs.Record.{ReadsRecord}
use Rattle.history_card.specs.Records.{count_refusal, CountRead, RecordsRead}
use Rattle.history_card.specs.declared.record.RecordRead.{RecordRead}
use Rattle.history_card.proofs.RecordLaws.{rest_bits, short_here, whole_here}

-- BEHIND THE LAST RECORD
module _ (ws : List ℕ) (end : ℕ) (inside : end ≤ 8 * length ws) where
  abbrev left : List ℕ
  left = drop end (bits_in ws)

  left_long : length left ≡ 8 * length ws - end
  left_long = length-drop end (bits_in ws) ∙ rw (length_bits_in ws)

  pub bytes_left : (end + 7) / 8 < length ws → bad_length ≡ end_refusal left
  unfolding end_refusal
  bytes_left h =
      let l : 8 ≤ length left = omega (arith, left_long) in
      simp (le-leb _ _ l)

  module _ (last : length ws ≤ (end + 7) / 8) (v : ℕ) (f : v ≡ field end (8 * ((end + 7) / 8) - end) (bits_in ws)) where
    by_filling : end_refusal left ≡ cond (eqb v 0) 0 bad_filling
    unfolding end_refusal
    by_filling =
        let l : length left < 8 = omega (arith, left_long) in
        let k : length (bits_in ws) ≡ end + (8 * ((end + 7) / 8) - end) = length_bits_in ws ∙ omega arith in
        rw (lt-leb _ _ l, f, field_rest_zero end (8 * ((end + 7) / 8) - end) (bits_in ws) k)

    pub filling_left : (v ≡ 0 → ⊥) → bad_filling ≡ end_refusal left
    filling_left n = sym (by_filling ∙ rw (ne_eqb v 0 n))

    pub nothing_left : v ≡ 0 → 0 ≡ end_refusal left
    nothing_left z = sym (by_filling ∙ rw (eq-eqb v 0 z))

-- THE LOOP
-- the first k records are read and pass, and stand in the first places
pub record Reading (ws : List ℕ) (s : Instance) (start count : ℕ) (records : List UndoRecord) (at k : ℕ) : Type 0 where
  pub k_in : k ≤ count
  pub at_in : at ≤ 8 * length ws
  pub near : at ≤ start + longest_record * k
  pub read : List Replaced
  pub read_many : length read ≡ k
  pub in_places : records ≡ stored read (replicate max_records blank_record)
  pub judged_so_far : records_refusal count s (drop start (bits_in ws)) ≡ records_refusal (count - k) s (drop at (bits_in ws))
  pub said_so_far : history_in count (drop start (bits_in ws)) [] ≡ history_in (count - k) (drop at (bits_in ws)) read

module _ (ws : List ℕ) (s : Instance) (start count : ℕ) where
  pub reading_begun : start ≤ 8 * length ws → Reading ws s start count (replicate max_records blank_record) start 0
  unfolding stored
  reading_begun h =
      let z : count - 0 ≡ count = omega arith in
      record {
        k_in = omega arith;
        at_in = h;
        near = omega arith;
        read = [];
        read_many = refl;
        in_places = refl;
        judged_so_far = rw z;
        said_so_far = rw z;
      }

  module _ (records : List UndoRecord) (at k : ℕ) (g : Reading ws s start count records at k) where
    abbrev here : List ℕ
    here = drop at (bits_in ws)

    module _ (more : k < count) where
      one_left : count - k ≡ suc (count - (k + 1))
      one_left = omega arith

      pub record_stops : (r : Refusal) → ReadsRecord (record_refusal s here) here at (Err r) →
          RecordsRead (records_refusal count s (drop start (bits_in ws))) count (drop start (bits_in ws)) (Err r)
      unfolding records_refusal
      record_stops r x =
          let e : records_refusal (suc (count - (k + 1))) s here ≡ refusal_number r = rw (← x.judged, eqb_0 r) in
          record { judged = sym (g.judged_so_far ∙ rw one_left e); all_records = tt }

      module _ (r : RecordRead) (x : ReadsRecord (record_refusal s here) here at (Ok r)) where
        passes : record_refusal s here ≡ 0
        passes = sym x.judged

        pub read_within : r.next ≤ 8 * length ws
        read_within =
            let w = (whole here (rest_bits ws at) (refusal_passed s here passes).0).within in
            omega (arith, x.its_end, length-drop at (bits_in ws), length_bits_in ws, g.at_in)

        next_rest : drop (record_length here) here ≡ drop r.next (bits_in ws)
        next_rest = drop-drop (record_length here) at (bits_in ws) ∙ ap (λ (a : ℕ). drop a (bits_in ws)) (sym (x.its_end))

        pub record_more : Reading ws s start count (set records k (record { replaced = r.replaced })) r.next (k + 1)
        unfolding records_refusal history_in stored
        record_more =
            let e : records_refusal (suc (count - (k + 1))) s here ≡ records_refusal (count - (k + 1)) s (drop r.next (bits_in ws)) =
            rw (eq-eqb (record_refusal s here) 0 passes, next_rest) in
            let f : history_in (suc (count - (k + 1))) here g.read ≡ history_in (count - (k + 1)) (drop r.next (bits_in ws)) (replaced_in here ∷ g.read) =
            ap (λ (xs : List ℕ). history_in (count - (k + 1)) xs (replaced_in here ∷ g.read)) next_rest in
            record {
              k_in = omega arith;
              at_in = read_within;
              near = omega (arith, x.its_end, g.near, record_length_most here);
              read = replaced_in here ∷ g.read;
              read_many = ap suc g.read_many ∙ sym (add-one k);
              in_places = rw (g.in_places, x.said, g.read_many);
              judged_so_far = g.judged_so_far ∙ rw one_left e;
              said_so_far = g.said_so_far ∙ rw one_left f;
            }

    module _ (last : k ≡ count) where
      none_left : count - k ≡ 0
      none_left = omega arith

      pub end_refused : (r : Refusal) → refusal_number r ≡ end_refusal here →
          RecordsRead (records_refusal count s (drop start (bits_in ws))) count (drop start (bits_in ws)) (Err r)
      unfolding records_refusal
      end_refused r q = record { judged = q ∙ sym (rw none_left at g.judged_so_far); all_records = tt }

      pub all_read : 0 ≡ end_refusal here →
          RecordsRead (records_refusal count s (drop start (bits_in ws))) count (drop start (bits_in ws)) (Ok records)
      unfolding records_refusal history_in
      all_read q =
          record {
            judged = q ∙ sym (rw none_left at g.judged_so_far);
            all_records = rw (g.in_places, rw none_left at g.said_so_far);
          }

-- THE COUNT
module _ (ws : List ℕ) (start : ℕ) where
  abbrev behind : List ℕ
  behind = drop start (bits_in ws)

  pub count_past : ltb (8 * length ws) (start + count_width) ≡ true → CountRead behind (Err BadLength)
  unfolding count_refusal
  count_past e =
      let h = short_here ws start count_width (omega arith) e in
      record { judged = simp (lt-ltb _ _ h); said = tt }

  module _ (inside : ltb (8 * length ws) (start + count_width) ≡ false) (count : ℕ) (f : count ≡ field start count_width (bits_in ws)) where
    same_count : count_in behind ≡ count
    same_count = field_drop start 0 count_width (bits_in ws) ∙ sym (f ∙ rw (add-zero start))

    pub count_above : max_records < count → CountRead behind (Err BadRecord)
    unfolding count_refusal
    count_above h =
        let l = whole_here ws start count_width (omega arith) inside in
        record { judged = rw (le-ltb (length behind) count_width l, same_count, lt-ltb max_records count h); said = tt }

    pub count_read : count ≤ max_records → CountRead behind (Ok count)
    unfolding count_refusal
    count_read h =
        let l = whole_here ws start count_width (omega arith) inside in
        record { judged = rw (le-ltb (length behind) count_width l, same_count, le-ltb max_records count h); said = sym same_count }

-- what a count tells: a refusal of all that stands behind the cells, or how many records are left to judge
module _ (s : Instance) (bs : List ℕ) where
  by_count : behind_refusal s bs ≡ cond (eqb (count_refusal bs) 0) (records_refusal (count_in bs) s (drop count_width bs)) (count_refusal bs)
  unfolding count_refusal behind_refusal
  by_count = go (ltb (length bs) count_width) (ltb max_records (count_in bs)) (records_refusal (count_in bs) s (drop count_width bs))
    where
      go : (a b : Bool) (rest : ℕ) → let k = cond a bad_length (cond b bad_record 0) in
          cond a bad_length (cond b bad_record rest) ≡ cond (eqb k 0) rest k
      go true b rest = refl
      go false true rest = refl
      go false false rest = refl

  pub count_refused : (e : Refusal) → CountRead bs (Err e) → behind_refusal s bs ≡ refusal_number e
  count_refused e c = by_count ∙ rw (← c.judged, eqb_0 e)

  pub record CountPassed (k : ℕ) : Type 0 where
    pub long : count_width ≤ length bs
    pub few : k ≤ max_records
    pub same : k ≡ count_in bs
    pub rest : behind_refusal s bs ≡ records_refusal k s (drop count_width bs)

  pub count_passed : (k : ℕ) → CountRead bs (Ok k) → CountPassed k
  unfolding count_refusal
  count_passed k c = go (ltb (length bs) count_width) (ltb max_records (count_in bs)) refl refl c.judged
    where
      go : (a b : Bool) → ltb (length bs) count_width ≡ a → ltb max_records (count_in bs) ≡ b → 0 ≡ cond a bad_length (cond b bad_record 0) → CountPassed k
      go true b p q z = absurd (omega (arith, z))
      go false true p q z = absurd (omega (arith, z))
      go false false p q z =
          record {
            long = ltb-false (length bs) count_width p;
            few = omega (arith, c.said, ltb-false max_records (count_in bs) q);
            same = c.said;
            rest = by_count ∙ rw (← c.judged, c.said);
          }
