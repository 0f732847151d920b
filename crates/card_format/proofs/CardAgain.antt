-- A card that opens, read and written again, is the same bytes. Assumes nothing.
--
-- Each field that was read is written before the bits that followed it, from the last one to the first: the cells
-- from i on, followed by the filling, are the bits from the offset of cell i on.
use mathlib.Core.Path.{◌≡◌, refl, ap, sym}
use mathlib.Core.Bool.{Bool, true, false, cond}
use mathlib.Core.List.{List, [], ◌++◌, append_assoc}
use Prim.Native.Nat.{ℕ, zero, suc, ◌+◌, ◌*◌, ◌-◌, ◌≤◌, ◌<◌}
use native.Mathlib.Omega.{arith}
use native.Mathlib.Nat.{add-zero}
use lib.ListN.{length, drop, length-drop}
use Rattle.base.proofs.PartLaws.{zeros_are}
use Rattle.bits.specs.Bits.{bits_of, bits_in, field, are_bits, are_bytes}
use Rattle.bits.proofs.ByteLaws.{length_bits_in, bits_in_are_bits, packed_bits_in}
use Rattle.bits.proofs.FieldLaws.{field_written}
use Rattle.instance.specs.Limits.{cells}
use Rattle.instance.specs.Instance.{Instance, weight_at, mark_at}
use Rattle.card_format.specs.Widths.{n_width, root_width, budget_width, header_width, weight_width, mark_width, cell_width}
use Rattle.card_format.specs.Card.{on_card, bits_needed, bytes_needed, instance_in, card_refusal, cell_bits, instance_bits, filling_bits, card_of}
use Rattle.card_format.specs.Offsets.{offset, cell_field, weight_field, mark_field}
use Rattle.card_format.proofs.LengthLaws.{length_known}
use Rattle.card_format.proofs.OffsetLaws.{offset_start, offset_within}
use Rattle.card_format.proofs.HeaderLaws.{n_of, root_of}
use Rattle.card_format.proofs.OpensLaws.{Opens, opens, weight_in, mark_in}

-- a cell's two fields
pair_again : (p : ℕ) (bs : List ℕ) → are_bits bs ≡ true → p + cell_width ≤ length bs →
    (bits_of weight_width (field (p + 0) weight_width bs) ++ bits_of mark_width (field (p + weight_width) mark_width bs)) ++ drop (p + cell_width) bs ≡ drop p bs
pair_again p bs e h =
    let s : p + weight_width + mark_width ≡ p + cell_width = omega arith in
    let m : bits_of mark_width (field (p + weight_width) mark_width bs) ++ drop (p + cell_width) bs ≡ drop (p + weight_width) bs = rw s at (field_written (p + weight_width) mark_width bs e (omega arith)) in
    rw (append_assoc, add-zero p, m) (field_written p weight_width bs e (omega arith))

module _ (s : Instance) (bs : List ℕ) (e : are_bits bs ≡ true) (m : ℕ) (fits : offset s.n s.root m ≤ length bs)
    (ws : (i : ℕ) → i < m → weight_at s i ≡ weight_field s.n s.root bs i)
    (ms : (i : ℕ) → i < m → mark_at s i ≡ mark_field s.n s.root bs i) where
  cell_again : (i : ℕ) → i < m → (t : Bool) → on_card s.n s.root i ≡ t →
      cond t (bits_of weight_width (weight_at s i) ++ bits_of mark_width (mark_at s i)) [] ++ drop (offset s.n s.root i + cond t cell_width 0) bs ≡ drop (offset s.n s.root i) bs
  unfolding cell_field
  cell_again i h true q =
      let w = offset_within s.n s.root i m h q in
      rw (ws i h, ms i h, q) (pair_again (offset s.n s.root i) bs e (omega arith))
  cell_again i h false q = ap (λ (k : ℕ). drop k bs) (add-zero (offset s.n s.root i))

  cells_again : (k i : ℕ) → i + k ≤ m → cell_bits k i s ++ drop (offset s.n s.root (i + k)) bs ≡ drop (offset s.n s.root i) bs
  unfolding cell_bits offset
  cells_again zero i h = rw (add-zero i)
  cells_again (suc k) i h =
      let z : i + suc k ≡ suc i + k = omega arith in
      rw (z, append_assoc, cells_again k (suc i) (omega arith)) (cell_again i (omega arith) (on_card s.n s.root i) refl)

module _ (ws : List ℕ) (o : Opens ws) where
  instance_again : instance_bits (instance_in ws) ++ drop (bits_needed (n_of ws)) (bits_in ws) ≡ bits_in ws
  unfolding instance_bits instance_in
  instance_again =
      let bs = bits_in ws in
      let s = instance_in ws in
      let e = bits_in_are_bits ws in
      let k = length_known (n_of ws) o.header.n_high in
      let c : cell_bits cells 0 s ++ drop (bits_needed (n_of ws)) bs ≡ drop header_width bs =
      rw (offset_start (n_of ws) (root_of ws), o.header.end) at (cells_again s bs e cells (omega (arith, o.header.end, o.long_enough)) (weight_in ws) (mark_in ws) cells 0 (omega arith)) in
      simp append_assoc (rw (
        c,
        field_written (n_width + root_width) budget_width bs e (omega (arith, o.long_enough)),
        field_written n_width root_width bs e (omega (arith, o.long_enough)),
      ) (field_written 0 n_width bs e (omega (arith, o.long_enough))))

pub card_round_trip : (ws : List ℕ) → are_bytes ws ≡ true → card_refusal ws ≡ 0 → card_of (instance_in ws) ≡ ws
unfolding card_of instance_in
card_round_trip ws b r =
    let o = opens ws r in
    let bs = bits_in ws in
    let n = n_of ws in
    let k = length_known n o.header.n_high in
    let l : 8 * bytes_needed n - bits_needed n ≡ length (drop (bits_needed n) bs) = omega (arith, length-drop (bits_needed n) bs, length_bits_in ws, o.header.sized) in
    let z : filling_bits n ≡ drop (bits_needed n) bs = rw l (sym (zeros_are (drop (bits_needed n) bs) o.zeros)) in
    rw (z, instance_again ws o, ← o.header.sized) (packed_bits_in ws b)
