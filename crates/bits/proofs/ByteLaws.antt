-- Bits of bytes, and bits packed into bytes: each is the other's inverse. Assumes nothing.
use mathlib.Core.Path.{◌≡◌, refl, ap, ◌∙◌}
use mathlib.Core.Bool.{true}
use mathlib.Core.List.{List, [], ◌∷◌, ◌++◌, append_assoc, append-nil}
use Prim.Native.Nat.{ℕ, zero, suc, ◌*◌, ◌^◌, ◌<◌}
use native.Mathlib.Omega.{arith}
use native.Mathlib.Nat.{mod-eq_of_lt, zero-mul}
use lib.Dec.{ltb}
use lib.ListN.{length, take, drop, length-append, length-drop, take-append-drop}
use lib.Seq.{take_at, drop_at, length-take-le}
use borrow.Author.Tests.{ltb-true}
use Rattle.base.specs.Lists.{all_of}
use Rattle.base.proofs.BoolLaws.{and_left, and_right}
use Rattle.bits.specs.Bits.{bits_of, bits_in, number_from, packed, are_bits, are_bytes}
use Rattle.base.proofs.AllOfLaws.{all_of_take, all_of_drop}
use Rattle.bits.proofs.NumberLaws.{length_bits_of, bits_of_are_bits, are_bits_append, number_bits_of, bits_of_number}

pub length_bits_in : (ws : List ℕ) → length (bits_in ws) ≡ 8 * length ws
unfolding bits_in
length_bits_in [] = refl
length_bits_in (w ∷ ws) = length-append (bits_of 8 w) (bits_in ws) ∙ rw (length_bits_of 8 w, length_bits_in ws) (omega arith)

pub bits_in_are_bits : (ws : List ℕ) → are_bits (bits_in ws) ≡ true
unfolding bits_in all_of
bits_in_are_bits [] = refl
bits_in_are_bits (w ∷ ws) = are_bits_append (bits_of 8 w) (bits_in ws) (bits_of_are_bits 8 w) (bits_in_are_bits ws)

pub bits_in_append : (xs ys : List ℕ) → bits_in (xs ++ ys) ≡ bits_in xs ++ bits_in ys
unfolding bits_in
bits_in_append [] ys = refl
bits_in_append (x ∷ xs) ys = rw (bits_in_append xs ys, append_assoc)

pub bits_in_one : (w : ℕ) → bits_in (w ∷ []) ≡ bits_of 8 w
unfolding bits_in
bits_in_one w = append-nil (bits_of 8 w)

-- PACKING
pub length_packed : (k : ℕ) (bs : List ℕ) → length (packed k bs) ≡ k
unfolding packed
length_packed zero bs = refl
length_packed (suc k) bs = ap suc (length_packed k (drop 8 bs))

pub packed_bits_in : (ws : List ℕ) → are_bytes ws ≡ true → packed (length ws) (bits_in ws) ≡ ws
unfolding packed bits_in all_of
packed_bits_in [] e = refl
packed_bits_in (w ∷ ws) e =
    let h : w < 2 ^ 8 = ltb-true w 256 (and_left (ltb w 256) (are_bytes ws) e) in
    let n : number_from 0 (bits_of 8 w) ≡ w = number_bits_of 8 0 w ∙ rw (mod-eq_of_lt h) (omega (arith, zero-mul (2 ^ 8))) in
    rw (
      take_at (bits_of 8 w) (bits_in ws) 8 (length_bits_of 8 w),
      drop_at (bits_of 8 w) (bits_in ws) 8 (length_bits_of 8 w),
      n,
      packed_bits_in ws (and_right (ltb w 256) (are_bytes ws) e),
    )

pub bits_in_packed : (k : ℕ) (bs : List ℕ) → length bs ≡ 8 * k → are_bits bs ≡ true → bits_in (packed k bs) ≡ bs
unfolding packed bits_in
bits_in_packed zero [] l e = refl
bits_in_packed zero (b ∷ bs) l e = absurd (omega arith)
bits_in_packed (suc k) bs l e =
    let t : length (take 8 bs) ≡ 8 = length-take-le 8 bs (omega arith) in
    let d : length (drop 8 bs) ≡ 8 * k = length-drop 8 bs ∙ omega arith in
    rw (bits_in_packed k (drop 8 bs) d (all_of_drop (λ b. ltb b 2) 8 bs e))
    (ap (λ (x : List ℕ). x ++ drop 8 bs) (rw t at (bits_of_number 0 (take 8 bs) (all_of_take (λ b. ltb b 2) 8 bs e))) ∙ take-append-drop 8 bs)
