-- A whole history card, put field by field and then filled: how many bits it has, the room that each step has, and the
-- whole. Assumes nothing.
use mathlib.Core.Path.{◌≡◌, refl}
use mathlib.Core.Bool.{true}
use mathlib.Core.List.{List, ◌++◌}
use Prim.Native.Nat.{ℕ, ◌+◌, ◌*◌, ◌/◌, ◌≤◌, ◌<◌}
use native.Mathlib.Omega.{arith}
use lib.ListN.{length, replicate}
use borrow.Author.Tests.{lt-ltb, le-ltb}
use Rattle.bits.specs.Bits.{bits_of, are_bytes}
use Rattle.bits.specs.Writer.{new_writer, filling, Ready, Put}
use Rattle.bits.specs.declared.BitWriter.{BitWriter}
use Rattle.bits.proofs.NumberLaws.{length_bits_of}
use Rattle.bits.proofs.WriterLaws.{put_then, filled_bytes}
use Rattle.instance.specs.Refusals.{buffer_short}
use Rattle.card_format.specs.Card.{bits_needed, instance_bits}
use Rattle.card_format.proofs.LengthLaws.{length_known}
use Rattle.card_format.proofs.WrittenBits.{length_instance_bits}
use Rattle.commands.specs.Model.{Model}
use Rattle.commands.specs.Valid.{valid}
use Rattle.commands.proofs.ValidLaws.{valid_parts}
use Rattle.history_format.specs.RecordWidths.{marker_width, history_marker, count_width}
use Rattle.history_format.specs.HistoryCard.{records_bits, history_bits, history_bytes, history_card_of}
use Rattle.history_format.proofs.HistoryLaws.{records_short}
use Rattle.history_format.proofs.HistoryBits.{length_history_bits}
use Rattle.history_card.specs.Write.{history_written_to, history_buffer_after, HistoryWritten}

-- HOW MANY BITS
module _ (m : Model) (ok : valid m ≡ true) where
  -- by its parts, as the program adds them
  pub history_width :
      length (history_bits m) ≡ marker_width + (bits_needed m.instance.n + (count_width + length (records_bits m.history)))
  history_width =
      let v = valid_parts m ok in
      let l = length_history_bits m v.n_high v.root_below in
      omega arith

  -- never so many that the program cannot count them
  pub history_most : length (history_bits m) < 65536
  history_most =
      let v = valid_parts m ok in
      let n = length_known m.instance.n v.n_high in
      omega (arith, history_width, n.most, records_short m.instance m.history v.n_high v.records_ok, v.few)

-- THE BITS: marker, the bits of a card, the count, the records
module _ (m : Model) (ok : valid m ≡ true) (out : List ℕ) (start : BitWriter) (room : Ready (length (history_bits m)) start out) where
  pub marker_room : Ready marker_width start out
  marker_room = record { few = room.few; room = omega (arith, room.room, history_width m ok) }

  module _ (ys : List ℕ) (q : BitWriter) (u : Put (bits_of marker_width history_marker) start out ys q) where
    marker_done : 8 * q.at + q.count ≡ 8 * start.at + start.count + marker_width
    marker_done = omega (arith, u.moved, length_bits_of marker_width history_marker)

    pub instance_room : Ready (bits_needed m.instance.n) q ys
    instance_room = record { few = u.few; room = omega (arith, room.room, history_width m ok, marker_done, u.long) }

    module _ (zs : List ℕ) (p : BitWriter) (v : Put (instance_bits m.instance) q ys zs p) where
      instance_done : 8 * p.at + p.count ≡ 8 * q.at + q.count + bits_needed m.instance.n
      instance_done =
          let k = valid_parts m ok in
          omega (arith, v.moved, length_instance_bits m.instance k.n_high k.root_below)

      pub count_room : Ready count_width p zs
      count_room = record { few = v.few; room = omega (arith, room.room, history_width m ok, marker_done, u.long, instance_done, v.long) }

      module _ (k : ℕ) (e : length m.history ≡ k) (xs : List ℕ) (o : BitWriter) (w : Put (bits_of count_width k) p zs xs o) where
        pub records_room : Ready (length (records_bits m.history)) o xs
        records_room =
            record {
              few = w.few;
              room =
                  omega (
                    arith,
                    room.room,
                    history_width m ok,
                    marker_done,
                    u.long,
                    instance_done,
                    v.long,
                    w.moved,
                    length_bits_of count_width k,
                    w.long,
                  );
            }

        pub all_put : (ws : List ℕ) (r : BitWriter) → Put (records_bits m.history) o xs ws r → Put (history_bits m) start out ws r
        unfolding history_bits
        all_put ws r x =
            let rest = records_bits m.history in
            rw e
            (put_then out ys ws start q r (bits_of marker_width history_marker) (instance_bits m.instance ++ (bits_of count_width k ++ rest)) u
            (put_then ys zs ws q p r (instance_bits m.instance) (bits_of count_width k ++ rest) v (put_then zs xs ws p o r (bits_of count_width k) rest w x)))

-- THE BYTES: a buffer that is too short is left alone; else the bits are put from its beginning, and filled
module _ (m : Model) where
  pub whole_bytes : history_bytes m ≡ (length (history_bits m) + 7) / 8
  unfolding history_bytes
  whole_bytes = refl

  pub short_refused : (out : List ℕ) → length out < history_bytes m → HistoryWritten m out out (record { answer = buffer_short; length = 0 })
  unfolding history_written_to history_buffer_after
  short_refused out h = let t = lt-ltb (length out) (history_bytes m) h in record { result = simp t; buffer = simp t }

  pub all_written : (out : List ℕ) → history_bytes m ≤ length out → (zs : List ℕ) (p : BitWriter) → Put (history_bits m) new_writer out zs p →
      (xs : List ℕ) (o : BitWriter) → Put (replicate (filling p.count) 0) p zs xs o → are_bytes xs ≡ true →
      HistoryWritten m out xs (record { answer = 0; length = history_bytes m })
  unfolding history_written_to history_buffer_after history_card_of
  all_written out long zs p u xs o x e =
      let t = le-ltb (length out) (history_bytes m) long in
      let w = filled_bytes out zs p (history_bits m) (history_bytes m) u whole_bytes long xs o x e in
      record { result = simp t; buffer = simp t w }
