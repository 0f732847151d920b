-- A card written into a buffer, step by step: the room that each step has, and the whole. Assumes nothing.
use mathlib.Core.Path.{◌≡◌}
use mathlib.Core.Bool.{true}
use mathlib.Core.List.{List}
use Prim.Native.Nat.{ℕ, ◌+◌, ◌/◌, ◌≤◌, ◌<◌}
use native.Mathlib.Omega.{arith}
use lib.ListN.{length, replicate}
use borrow.Author.Tests.{lt-ltb, le-ltb}
use Rattle.bits.specs.Bits.{are_bytes}
use Rattle.bits.specs.Writer.{new_writer, filling, Ready, Put}
use Rattle.bits.specs.declared.BitWriter.{BitWriter}
use Rattle.bits.proofs.WriterLaws.{put_then, filled_bytes}
use Rattle.instance.specs.Limits.{max_vertices, cells}
use Rattle.instance.specs.Refusals.{buffer_short}
use Rattle.instance.specs.Instance.{Instance, instance_with}
use Rattle.card_format.specs.Widths.{header_width, cell_width}
use Rattle.card_format.specs.Card.{on_card, bits_needed, bytes_needed, header_bits, one_cell, cell_bits, instance_bits, card_of}
use Rattle.card_format.proofs.LengthLaws.{length_known}
use Rattle.card_format.proofs.WrittenBits.{cell_bits_budget, length_header, length_pair, length_cells, length_instance_bits}
use Rattle.card.specs.Write.{written_to, buffer_after, CardWritten}

pub cell_room : (out : List ℕ) (w : BitWriter) (n r i v m : ℕ) → on_card n r i ≡ true → Ready (length (one_cell n r i v m)) w out → Ready cell_width w out
cell_room out w n r i v m t h = rw (t, length_pair v m) at h

-- THE BITS: the header, then the cells
module _ (n r b : ℕ) (vs ms : List ℕ) (few : n ≤ max_vertices) (inside : r < n) (out : List ℕ) (start : BitWriter) (room : Ready (bits_needed n) start out) where
  pub header_room : Ready header_width start out
  header_room = let w = length_known n few in record { few = room.few; room = omega (arith, room.room, w.header) }

  module _ (ys : List ℕ) (q : BitWriter) (u : Put (header_bits n r b) start out ys q) where
    pub cells_room : Ready (length (cell_bits cells 0 (instance_with n r 0 vs ms))) q ys
    cells_room =
        let l = length_cells (instance_with n r 0 vs ms) few inside in
        record { few = u.few; room = omega (arith, room.room, l, length_header n r b, u.moved, u.long) }

    pub all_put : (zs : List ℕ) (p : BitWriter) → Put (cell_bits cells 0 (instance_with n r 0 vs ms)) q ys zs p →
        Put (instance_bits (instance_with n r b vs ms)) start out zs p
    unfolding instance_bits
    all_put zs p v =
        rw (cell_bits_budget cells 0 n r b 0 vs ms)
        (put_then out ys zs start q p (header_bits n r b) (cell_bits cells 0 (instance_with n r 0 vs ms)) u v)

-- THE BYTES: a buffer that is too short is left alone; else the bits are put from its beginning, and filled
pub short_refused : (s : Instance) (out : List ℕ) → length out < bytes_needed s.n → CardWritten s out out (record { answer = buffer_short; length = 0 })
unfolding written_to buffer_after
short_refused s out h = let t = lt-ltb (length out) (bytes_needed s.n) h in record { result = simp t; buffer = simp t }

module _ (s : Instance) (few : s.n ≤ max_vertices) (inside : s.root < s.n) (out : List ℕ) (long : bytes_needed s.n ≤ length out) where
  pub bits_room : Ready (bits_needed s.n) new_writer out
  bits_room = let w = length_known s.n few in record { few = omega arith; room = omega arith }

  pub whole_bytes : bytes_needed s.n ≡ (length (instance_bits s) + 7) / 8
  unfolding bytes_needed
  whole_bytes = rw (length_instance_bits s few inside)

  pub all_written : (zs : List ℕ) (p : BitWriter) → Put (instance_bits s) new_writer out zs p → (xs : List ℕ) (o : BitWriter) →
      Put (replicate (filling p.count) 0) p zs xs o → are_bytes xs ≡ true → CardWritten s out xs (record { answer = 0; length = bytes_needed s.n })
  unfolding written_to buffer_after card_of
  all_written zs p u xs o x e =
      let t = le-ltb (length out) (bytes_needed s.n) long in
      let w = filled_bytes out zs p (instance_bits s) (bytes_needed s.n) u whole_bytes long xs o x e in
      record { result = simp t; buffer = simp t (rw (length_instance_bits s few inside) at w) }
