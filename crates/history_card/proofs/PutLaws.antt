-- What is put next of a record and of the records, and the room for it. Assumes nothing.
--
-- Records are put one behind the other: what is put of the first k of them and then the next are the first k + 1, and
-- these are not more than all.
use mathlib.Core.Path.{◌≡◌, refl, sym}
use mathlib.Core.List.{List, [], ◌++◌, append_assoc}
use mathlib.Core.Logic.{⊎_elim}
use Prim.Native.Nat.{ℕ, zero, suc, ◌+◌, ◌*◌, ◌≤◌, ◌<◌}
use native.Mathlib.Omega.{arith}
use native.Mathlib.Nat.{eq-or-lt_of_le}
use native.Mathlib.Numerals.{add-one}
use lib.ListN.{length, get_or, take, length-append}
use Rattle.std.proofs.lemmas.List.{get_or-take, length-take-le}
use Rattle.bits.specs.Bits.{bits_of}
use Rattle.bits.specs.Writer.{Ready, Put}
use Rattle.bits.specs.declared.BitWriter.{BitWriter}
use Rattle.bits.proofs.NumberLaws.{length_bits_of}
use Rattle.bits.proofs.WriterLaws.{put_then}
use Rattle.instance.specs.Limits.{max_vertices}
use Rattle.card_format.specs.Widths.{budget_width, mark_width}
use Rattle.commands.specs.Model.{Replaced, old_mark, old_marks, old_budget}
use Rattle.board.specs.declared.UndoRecord.{UndoRecord}
use Rattle.board.specs.ModelOf.{replaced_of, blank_record, history_of}
use Rattle.history_format.specs.RecordWidths.{kind_width, vertex_width, head_start, heads_width}
use Rattle.history_format.specs.RecordBits.{mark_offset, mark_bits, record_bits}
use Rattle.history_format.specs.HistoryCard.{records_bits}
use Rattle.history_format.proofs.MemberMarks.{offset_most}
use Rattle.history_format.proofs.RecordLaws.{length_mark, length_budget, length_marks}
use Rattle.history_format.proofs.RecordLength.{longest_record}
use Rattle.history_card.proofs.MarksLaws.{next_room}

-- ONE RECORD: the kind and one field, then the rest
pub length_two : (j k x y : ℕ) → length (bits_of j x ++ bits_of k y) ≡ j + k
length_two j k x y = simp (length-append, length_bits_of)

pub mark_record_bits : (t h m : ℕ) →
    record_bits (old_mark t h m) ≡ (bits_of kind_width 0 ++ bits_of vertex_width t) ++ (bits_of vertex_width h ++ bits_of mark_width m)
unfolding record_bits
mark_record_bits t h m = sym (append_assoc (bits_of kind_width 0) (bits_of vertex_width t) (bits_of vertex_width h ++ bits_of mark_width m))

pub budget_record_bits : (v : ℕ) → record_bits (old_budget v) ≡ bits_of kind_width 1 ++ bits_of budget_width v
unfolding record_bits
budget_record_bits v = refl

-- the marks of several arcs: kind and tail, the heads, their marks
module _ (t c : ℕ) (ms : List ℕ) (out : List ℕ) (start : BitWriter) (room : Ready (length (record_bits (old_marks t c ms))) start out) where
  pub tail_room : Ready head_start start out
  tail_room = record { few = room.few; room = omega (arith, room.room, length_marks t c ms) }

  module _ (ys : List ℕ) (q : BitWriter) (u : Put (bits_of kind_width 2 ++ bits_of vertex_width t) start out ys q) where
    pub heads_room : Ready heads_width q ys
    heads_room = record { few = u.few; room = omega (arith, room.room, length_marks t c ms, u.moved, u.long, length_two kind_width vertex_width 2 t) }

    module _ (zs : List ℕ) (p : BitWriter) (v : Put (bits_of heads_width c) q ys zs p) where
      pub marks_room : Ready (mark_offset c max_vertices) p zs
      marks_room =
          let a = length_two kind_width vertex_width 2 t in
          let b = length_bits_of heads_width c in
          record { few = v.few; room = omega (arith, room.room, length_marks t c ms, u.moved, u.long, a, v.moved, v.long, b) }

      pub marks_put : (xs : List ℕ) (o : BitWriter) → Put (mark_bits max_vertices c ms) p zs xs o → Put (record_bits (old_marks t c ms)) start out xs o
      unfolding record_bits
      marks_put xs o w =
          let front = bits_of kind_width 2 ++ bits_of vertex_width t in
          let rest = bits_of heads_width c ++ mark_bits max_vertices c ms in
          rw (← append_assoc (bits_of kind_width 2) (bits_of vertex_width t) rest)
          (put_then out ys xs start q o front rest u (put_then ys zs xs q p o (bits_of heads_width c) (mark_bits max_vertices c ms) v w))

-- THE RECORDS
record_most : (o : Replaced) → length (record_bits o) ≤ longest_record
record_most (old_mark t h m) = omega (arith, length_mark t h m)
record_most (old_marks t c ms) = omega (arith, length_marks t c ms, offset_most c max_vertices)
record_most (old_budget v) = omega (arith, length_budget v)

module _ (rs : List UndoRecord) where
  abbrev pub record_at : ℕ → List ℕ
  record_at k = record_bits (replaced_of (get_or rs k blank_record).replaced)

  abbrev pub records_to : ℕ → List ℕ
  records_to k = records_bits (history_of k rs)

  pub records_none : records_to 0 ≡ []
  unfolding records_bits history_of
  records_none = refl

  pub next_record : (k : ℕ) → records_to (k + 1) ≡ records_to k ++ record_at k
  unfolding records_bits history_of
  next_record k = rw (add-one k)

  pub length_next : (k : ℕ) → length (records_to (k + 1)) ≡ length (records_to k) + length (record_at k)
  length_next k = rw (next_record k) (length-append (records_to k) (record_at k))

  -- never so many bits that the program cannot count them
  pub records_most : (k : ℕ) → length (records_to k) ≤ longest_record * k
  records_most zero = rw records_none (omega arith)
  records_most (suc k) =
      let e : suc k ≡ k + 1 = omega arith in
      rw e (omega (arith, length_next k, records_most k, record_most (replaced_of (get_or rs k blank_record).replaced)))

  records_rise : (h k : ℕ) → h ≤ k → length (records_to h) ≤ length (records_to k)
  records_rise h zero l = let e : h ≡ 0 = omega arith in rw e (omega arith)
  records_rise h (suc k) l =
      let e : suc k ≡ k + 1 = omega arith in
      ⊎_elim (λ (q : h ≡ suc k). rw q (omega arith)) (λ (q : h < suc k). rw e (omega (arith, length_next k, records_rise h k (omega arith))))
      (eq-or-lt_of_le {n = h} {m = suc k} l)

  pub record_room : (xs ys : List ℕ) (p q : BitWriter) (k n : ℕ) → k < n → Put (records_to k) p xs ys q →
      Ready (length (records_to n)) p xs → Ready (length (record_at k)) q ys
  record_room xs ys p q k n l u r =
      next_room xs ys p q (records_to k) (record_at k) (length (records_to n)) u
      (omega (arith, length_next k, records_rise (k + 1) n (omega arith))) r

-- the first records, taken out of all the places
history_taken : (rs : List UndoRecord) (k n : ℕ) → k ≤ n → history_of k (take n rs) ≡ history_of k rs
unfolding history_of
history_taken rs zero n h = refl
history_taken rs (suc k) n h = rw (get_or-take n rs k blank_record (omega arith), history_taken rs k n (omega arith))

pub history_sliced : (rs : List UndoRecord) (k : ℕ) → k ≤ length rs → history_of (length (take k rs)) (take k rs) ≡ history_of k rs
history_sliced rs k h = rw (length-take-le k rs h) (history_taken rs k k (omega arith))
