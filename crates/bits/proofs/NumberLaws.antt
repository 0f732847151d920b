-- Bits of a number, and the number that bits stand for: each is the other's inverse. Assumes nothing.
use mathlib.Core.Path.{◌≡◌, refl, ap, ◌∙◌}
use mathlib.Core.Bool.{true}
use mathlib.Core.List.{List, [], ◌∷◌, ◌++◌}
use Prim.Native.Nat.{ℕ, zero, suc, ◌+◌, ◌*◌, ◌/◌, ◌%◌, ◌^◌, ◌≤◌, ◌<◌}
use native.Mathlib.Omega.{arith}
use native.Mathlib.Numerals.{one-add}
use native.Mathlib.Nat.{pow-suc, add-mul, mul_assoc, one-mul, zero-mul, zero-add, suc-mul, mul-le-mul, le_refl, mod-lt, zero-div}
use lib.Pow.{mod-pow-add, high, shr-shr, pow_pos, pow-add, shl_exact}
use lib.Dec.{ltb}
use lib.ListN.{length, replicate}
use borrow.Author.Tests.{ltb-true, lt-ltb}
use Rattle.base.specs.Lists.{all_of}
use Rattle.base.proofs.BoolLaws.{and_left, and_right, and_both}
use Rattle.base.proofs.AllOfLaws.{all_of_append}
use Rattle.base.proofs.PartLaws.{all_of_replicate}
use Rattle.bits.specs.Bits.{bits_of, number_from, are_bits}

-- a power that a shift computes in a 64-bit word
pub power_word : (k : ℕ) → k ≤ 32 → 1 * 2 ^ k % 18446744073709551616 ≡ 2 ^ k
power_word k h = shl_exact {a = 1} 1 k 64 (omega arith) (omega arith) ∙ one-mul (2 ^ k)

pub length_bits_of : (k v : ℕ) → length (bits_of k v) ≡ k
unfolding bits_of
length_bits_of zero v = refl
length_bits_of (suc k) v = ap suc (length_bits_of k v)

pub bits_of_none : (v : ℕ) → bits_of 0 v ≡ []
unfolding bits_of
bits_of_none v = refl

pub bits_of_are_bits : (k v : ℕ) → are_bits (bits_of k v) ≡ true
unfolding bits_of all_of
bits_of_are_bits zero v = refl
bits_of_are_bits (suc k) v =
    and_both (ltb (v / 2 ^ k % 2) 2) (are_bits (bits_of k v)) (lt-ltb (v / 2 ^ k % 2) 2 (omega arith)) (bits_of_are_bits k v)

pub are_bits_append : (xs ys : List ℕ) → are_bits xs ≡ true → are_bits ys ≡ true → are_bits (xs ++ ys) ≡ true
are_bits_append xs ys p q = all_of_append (λ b. ltb b 2) xs ys p q

pub zeros_are_bits : (k : ℕ) → are_bits (replicate k 0) ≡ true
zeros_are_bits k = all_of_replicate (λ b. ltb b 2) k 0 refl

-- the upper bits, then the lower ones
pub bits_of_split : (j k v : ℕ) → bits_of (j + k) v ≡ bits_of j (v / 2 ^ k) ++ bits_of k v
unfolding bits_of
bits_of_split zero k v = rw (zero-add k)
bits_of_split (suc j) k v =
    let e : suc j + k ≡ suc (j + k) = omega arith in
    let s : k + j ≡ j + k = omega arith in
    rw (e, shr-shr v k j, s) (ap (λ (l : List ℕ). (v / 2 ^ (j + k) % 2) ∷ l) (bits_of_split j k v))

pub bits_of_zero : (k : ℕ) → bits_of k 0 ≡ replicate k 0
unfolding bits_of
bits_of_zero zero = refl
bits_of_zero (suc k) = rw (zero-div (2 ^ k)) (ap (λ (l : List ℕ). 0 ∷ l) (bits_of_zero k))

-- NUMBERS
pub number_from_append : (v : ℕ) (xs ys : List ℕ) → number_from v (xs ++ ys) ≡ number_from (number_from v xs) ys
unfolding number_from
number_from_append v [] ys = refl
number_from_append v (x ∷ xs) ys = number_from_append (2 * v + x) xs ys

doubled : (a b P : ℕ) → (2 * a + b) * P ≡ a * (P * 2) + b * P
doubled a b P = add-mul (2 * a) b P ∙ omega (arith, mul_assoc 2 a P, mul_assoc a P 2)

-- what stands before the bits counts by the power of their number
pub number_from_shift : (a : ℕ) (bs : List ℕ) → number_from a bs ≡ a * 2 ^ length bs + number_from 0 bs
unfolding number_from
number_from_shift a [] = omega arith
number_from_shift a (b ∷ bs) =
    let z : 2 * 0 + b ≡ b = omega arith in
    let t = number_from_shift b bs in
    number_from_shift (2 * a + b) bs ∙ rw (z, pow-suc 2 (length bs), doubled a b (2 ^ length bs)) (omega (arith, t))

pub number_below : (bs : List ℕ) → are_bits bs ≡ true → number_from 0 bs < 2 ^ length bs
unfolding number_from all_of
number_below [] e = omega arith
number_below (b ∷ bs) e =
    let h : b < 2 = ltb-true b 2 (and_left (ltb b 2) (are_bits bs) e) in
    let t = number_below bs (and_right (ltb b 2) (are_bits bs) e) in
    let z : 2 * 0 + b ≡ b = omega arith in
    rw (z, number_from_shift b bs, pow-suc 2 (length bs)) (below b (2 ^ length bs) (number_from 0 bs) h t)
  where
    below : (b P r : ℕ) → b < 2 → r < P → b * P + r < P * 2
    below zero P r h l = omega (arith, zero-mul P)
    below (suc zero) P r h l = omega (arith, one-mul P)
    below (suc (suc b)) P r h l = absurd (omega arith)

-- THERE AND BACK
-- the number of a number's lowest bits, behind those of a
pub number_bits_of : (k a v : ℕ) → number_from a (bits_of k v) ≡ a * 2 ^ k + v % 2 ^ k
unfolding number_from bits_of
number_bits_of zero a v = omega arith
number_bits_of (suc k) a v =
    let b = v / 2 ^ k % 2 in
    let m : v % 2 ^ suc k ≡ b * 2 ^ k + v % 2 ^ k = rw one-add at (mod-pow-add v 1 k) in
    number_bits_of k (2 * a + b) v ∙ rw (m, pow-suc 2 k, doubled a b (2 ^ k)) (omega arith)

-- the bits of the number of bits, whatever stands before them
pub bits_of_number : (a : ℕ) (bs : List ℕ) → are_bits bs ≡ true → bits_of (length bs) (number_from a bs) ≡ bs
unfolding number_from bits_of all_of
bits_of_number a [] e = refl
bits_of_number a (b ∷ bs) e =
    let h : b < 2 = ltb-true b 2 (and_left (ltb b 2) (are_bits bs) e) in
    let r = and_right (ltb b 2) (are_bits bs) e in
    let q : number_from (2 * a + b) bs / 2 ^ length bs ≡ 2 * a + b = rw (number_from_shift (2 * a + b) bs) (high (2 * a + b) (length bs) (number_below bs r)) in
    rw (bits_of_number (2 * a + b) bs r, q) (ap (λ (x : ℕ). x ∷ bs) (omega arith))

-- higher bits do not matter
pub bits_of_low : (k a v : ℕ) → bits_of k (a * 2 ^ k + v % 2 ^ k) ≡ bits_of k v
bits_of_low k a v = rw (length_bits_of, number_bits_of) at (bits_of_number a (bits_of k v) (bits_of_are_bits k v))

-- nor if more of them are cut off
pub bits_of_cut : (j k v : ℕ) → bits_of k (v % 2 ^ (j + k)) ≡ bits_of k v
bits_of_cut j k v = rw (mod-pow-add v j k) (bits_of_low k (v / 2 ^ k % 2 ^ j) v)

-- two numbers joined, the second by its lowest bits
pub bits_of_join : (j k a v : ℕ) → bits_of (j + k) (a * 2 ^ k + v % 2 ^ k) ≡ bits_of j a ++ bits_of k v
bits_of_join j k a v = rw (bits_of_split j k (a * 2 ^ k + v % 2 ^ k), high a k (mod-lt v (pow_pos k)), bits_of_low k a v)

-- and they fit
pub joined_below : (j k a v : ℕ) → a < 2 ^ j → a * 2 ^ k + v % 2 ^ k < 2 ^ (j + k)
joined_below j k a v h =
    let m : suc a * 2 ^ k ≤ 2 ^ j * 2 ^ k = mul-le-mul h (le_refl (2 ^ k)) in
    omega (arith, m, suc-mul a (2 ^ k), pow-add 2 j k, mod-lt v (pow_pos k))
