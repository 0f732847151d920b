-- Fields of bits: one field as two, a field within a longer one, what is written is read and the other way round.
-- Assumes nothing.
use mathlib.Core.Path.{◌≡◌, refl, ◌∙◌, sym}
use mathlib.Core.Bool.{true}
use mathlib.Core.List.{List, [], ◌∷◌, ◌++◌}
use Prim.Native.Nat.{ℕ, zero, suc, ◌+◌, ◌*◌, ◌-◌, ◌/◌, ◌%◌, ◌^◌, ◌≤◌, ◌<◌}
use native.Mathlib.Omega.{arith}
use native.Mathlib.Nat.{suc-mul, zero-mul}
use lib.Dec.{ltb, eqb}
use lib.Pow.{pow_pos, pow_mono, high, low}
use lib.ListN.{length, get_or, take, drop, length-take, length-drop, take-append-drop}
use lib.Seq.{take_at, drop_at, take-add, take_all, drop-drop}
use borrow.Author.Tests.{ne_eqb}
use Rattle.base.specs.Lists.{all_of}
use Rattle.bits.specs.Bits.{bits_of, bits_in, number_from, field, are_bits}
use Rattle.base.proofs.AllOfLaws.{all_of_take, all_of_drop}
use Rattle.base.proofs.PartLaws.{length_part}
use Rattle.bits.proofs.NumberLaws.{length_bits_of, number_from_append, number_from_shift, number_below, number_bits_of, bits_of_number}
use Rattle.bits.proofs.ByteLaws.{length_bits_in, bits_in_are_bits}

pub field_none : (a : ℕ) (bs : List ℕ) → field a 0 bs ≡ 0
unfolding field number_from
field_none a bs = refl

-- a field behind dropped bits
pub field_drop : (d a k : ℕ) (bs : List ℕ) → field a k (drop d bs) ≡ field (d + a) k bs
unfolding field
field_drop d a k bs = rw (drop-drop a d bs)

-- of a field that runs past the end there are fewer bits, so it is below all the more
pub field_below : (a k : ℕ) (bs : List ℕ) → are_bits bs ≡ true → field a k bs < 2 ^ k
unfolding field
field_below a k bs e =
    let n = number_below (take k (drop a bs)) (all_of_take (λ b. ltb b 2) k (drop a bs) (all_of_drop (λ b. ltb b 2) a bs e)) in
    let l : length (take k (drop a bs)) ≤ k = omega (arith, length-take k (drop a bs)) in
    omega (arith, n, pow_mono l)

-- a field as two
pub field_add : (a j k : ℕ) (bs : List ℕ) → a + j + k ≤ length bs → field a (j + k) bs ≡ field a j bs * 2 ^ k + field (a + j) k bs
unfolding field
field_add a j k bs h =
    rw (take-add j k (drop a bs), drop-drop j a bs, number_from_append, number_from_shift (number_from 0 (take j (drop a bs))), length_part (a + j) k bs h)

-- a field within a longer one: t bits stand behind it, j before it
pub field_within : (a j k t : ℕ) (bs : List ℕ) → are_bits bs ≡ true → a + j + k + t ≤ length bs →
    field a (j + k + t) bs / 2 ^ t % 2 ^ k ≡ field (a + j) k bs
field_within a j k t bs e h =
    let s : a + (j + k) ≡ a + j + k = omega arith in
    let l : a + (j + k) + t ≤ length bs = omega arith in
    let b : field (a + j + k) t bs < 2 ^ t = field_below (a + j + k) t bs e in
    let c : field (a + j) k bs < 2 ^ k = field_below (a + j) k bs e in
    rw (field_add a (j + k) t bs l, s, high (field a (j + k) bs) t b, field_add a j k bs (omega arith), low (field a j bs) k c)

-- THERE AND BACK
-- a field that is written between other bits is read
pub field_read : (xs ys : List ℕ) (a k v : ℕ) → length xs ≡ a → field a k (xs ++ (bits_of k v ++ ys)) ≡ v % 2 ^ k
unfolding field
field_read xs ys a k v e =
    rw (drop_at xs (bits_of k v ++ ys) a e, take_at (bits_of k v) ys k (length_bits_of k v), number_bits_of k 0 v) (omega (arith, zero-mul (2 ^ k)))

-- a field that is read is written again, before the bits that followed it
pub field_written : (a k : ℕ) (bs : List ℕ) → are_bits bs ≡ true → a + k ≤ length bs → bits_of k (field a k bs) ++ drop (a + k) bs ≡ drop a bs
unfolding field
field_written a k bs e h =
    let b : bits_of k (number_from 0 (take k (drop a bs))) ≡ take k (drop a bs) =
    rw (length_part a k bs h) at (bits_of_number 0 (take k (drop a bs)) (all_of_take (λ b. ltb b 2) k (drop a bs) (all_of_drop (λ b. ltb b 2) a bs e))) in
    rw (b, ← drop-drop k a bs) (take-append-drop k (drop a bs))

-- FIELDS OF BYTES
-- a byte is the field where its bits are
pub byte_field : (ws : List ℕ) (i : ℕ) → i < length ws → field (8 * i) 8 (bits_in ws) ≡ get_or ws i 0 % 256
unfolding bits_in
byte_field [] i h = absurd (omega arith)
byte_field (w ∷ ws) zero h = field_read [] (bits_in ws) 0 8 w refl
byte_field (w ∷ ws) (suc i) h =
    let e : 8 * suc i ≡ 8 + 8 * i = omega arith in
    rw e (sym (field_drop 8 (8 * i) 8 (bits_of 8 w ++ bits_in ws)) ∙ rw (drop_at (bits_of 8 w) (bits_in ws) 8 (length_bits_of 8 w)) (byte_field ws i (omega arith)))

-- one byte more
pub bytes_more : (ws : List ℕ) (i k : ℕ) → i + k < length ws →
    field (8 * i) (8 * (k + 1)) (bits_in ws) ≡ field (8 * i) (8 * k) (bits_in ws) * 256 + get_or ws (i + k) 0 % 256
bytes_more ws i k h =
    let e : 8 * (k + 1) ≡ 8 * k + 8 = omega arith in
    let s : 8 * i + 8 * k ≡ 8 * (i + k) = omega arith in
    rw (e, field_add (8 * i) (8 * k) 8 (bits_in ws) (rw (length_bits_in ws) (omega arith)), s, byte_field ws (i + k) h)

pub bytes_below : (ws : List ℕ) (i k m : ℕ) → k ≤ m → field (8 * i) (8 * k) (bits_in ws) < 2 ^ (8 * m)
bytes_below ws i k m l =
    let p : 8 * k ≤ 8 * m = omega arith in
    omega (arith, field_below (8 * i) (8 * k) (bits_in ws) (bits_in_are_bits ws), pow_mono p)

-- a field is within the bytes that it lies in
pub field_in_bytes : (ws : List ℕ) (a k count : ℕ) → a + k ≤ 8 * length ws → count ≡ (a % 8 + k + 7) / 8 →
    field (8 * (a / 8)) (8 * count) (bits_in ws) / 2 ^ (8 * count - (a % 8 + k)) % 2 ^ k ≡ field a k (bits_in ws)
field_in_bytes ws a k count h e =
    let t = 8 * count - (a % 8 + k) in
    let w : a % 8 + k + t ≡ 8 * count = omega arith in
    let s : 8 * (a / 8) + a % 8 ≡ a = omega arith in
    let l : 8 * (a / 8) + a % 8 + k + t ≤ length (bits_in ws) = rw (length_bits_in ws) (omega arith) in
    rw (w, s) at (field_within (8 * (a / 8)) (a % 8) k t (bits_in ws) (bits_in_are_bits ws) l)

-- FIELDS OF ZEROS
-- bits are zero exactly if their number is
pub zero_number : (bs : List ℕ) → eqb (number_from 0 bs) 0 ≡ all_of (λ b. eqb b 0) bs
unfolding number_from all_of
zero_number [] = refl
zero_number (zero ∷ bs) = zero_number bs
zero_number (suc b ∷ bs) =
    let z : 2 * 0 + suc b ≡ suc b = omega arith in
    rw (z, ne_eqb (suc b) 0 (λ q. absurd (omega arith)), number_from_shift (suc b) bs)
    (ne_eqb (suc b * 2 ^ length bs + number_from 0 bs) 0 (λ q. absurd (omega (arith, suc-mul b (2 ^ length bs), pow_pos (length bs)))))

-- the field of all bits from a place on
pub field_rest_zero : (a k : ℕ) (bs : List ℕ) → length bs ≡ a + k → eqb (field a k bs) 0 ≡ all_of (λ b. eqb b 0) (drop a bs)
unfolding field
field_rest_zero a k bs h =
    let t : take k (drop a bs) ≡ drop a bs = take_all k (drop a bs) (rw (length-drop a bs) (omega arith)) in
    rw t (zero_number (drop a bs))
