-- The vertices of a set as the bits of a number: one vertex more, a set put together from a test, and the bits that a
-- number has. Assumes nothing.
use mathlib.Core.Path.{◌≡◌, refl, sym, ap, ◌∙◌}
use mathlib.Core.Bool.{Bool, true, false, cond}
use mathlib.Core.Logic.{⊎_elim}
use Prim.Native.Nat.{ℕ, zero, suc, ◌+◌, ◌*◌, ◌/◌, ◌%◌, ◌^◌, ◌≤◌, ◌<◌}
use native.Mathlib.Omega.{arith}
use native.Mathlib.Nat.{pow-suc, div-eq_of_lt, div-eq_of_lt-le, div-lt_iff_lt-mul, le-div_iff_mul-le, one-mul, zero-mul, add-zero, zero-div, zero-lt-suc}
use native.Mathlib.Numerals.{add-one}
use lib.Dec.{ltb, eqb}
use lib.Pow.{pow_pos, pow_mono, shr-shr, shl_exact}
use borrow.Author.Tests.{lt-ltb, ltb-true, ltb-false, eq-eqb, eqb-true}
use Rattle.base.specs.Bounded.{any_below}
use Rattle.base.specs.Digits.{from_digits, digit}
use Rattle.base.proofs.BoolLaws.{test, same_test, not_both, or_left, or_right}
use Rattle.base.proofs.BoundedLaws.{any_found, any_false}
use Rattle.base.proofs.DigitLaws.{digit_low, digit_top, digit_of, digits_more, digits_below}
use Rattle.instance.specs.Cuts.{inside}

-- ONE VERTEX MORE, the highest
-- a lower vertex is inside as before
pub inside_low : (s p q : ℕ) → q < p → inside (s + 2 ^ p) q ≡ inside s q
unfolding inside digit
inside_low s p q l = ap (λ (x : ℕ). eqb x 1) (ap (λ (x : ℕ). (s + x) / 2 ^ q % 2) (sym (one-mul (2 ^ p))) ∙ digit_low 2 (zero-lt-suc 1) s 1 p q l)

-- the one added is inside
pub inside_top : (s p : ℕ) → s < 2 ^ p → inside (s + 2 ^ p) p ≡ true
unfolding inside digit
inside_top s p l = ap (λ (x : ℕ). eqb x 1) (ap (λ (x : ℕ). (s + x) / 2 ^ p % 2) (sym (one-mul (2 ^ p))) ∙ digit_top 2 (zero-lt-suc 1) s 1 p l (omega arith))

pub inside_none : (s p : ℕ) → s < 2 ^ p → inside s p ≡ false
unfolding inside
inside_none s p l = rw (div-eq_of_lt l)

pub inside_some : (s p : ℕ) → inside s p ≡ true → 0 < s
unfolding inside
inside_some zero p e = absurd (not_both (eqb (0 / 2 ^ p % 2) 1) e (rw (zero-div (2 ^ p))))
inside_some (suc s) p e = omega arith

-- A SET PUT TOGETHER FROM A TEST has the vertices that pass
pub bit_small : (b : Bool) → cond b 1 0 < 2
bit_small true = omega arith
bit_small false = omega arith

bit_read : (b : Bool) → eqb (cond b 1 0) 1 ≡ b
bit_read true = refl
bit_read false = refl

pub inside_digits : (k : ℕ) (q : ℕ → Bool) (v : ℕ) → v < k → inside (from_digits 2 k (λ h. cond (q h) 1 0)) v ≡ q v
unfolding inside digit
inside_digits k q v l =
    ap (λ (x : ℕ). eqb x 1) (digit_of 2 k (λ h. cond (q h) 1 0) (zero-lt-suc 1) (λ h _. bit_small (q h)) v l) ∙ bit_read (q v)

-- as a program puts it together, vertex by vertex
pub one_shifted : (h : ℕ) → h < 32 → 1 * 2 ^ h % 4294967296 ≡ 2 ^ h
one_shifted h l = shl_exact {a = 1} 1 h 32 (omega arith) (omega arith) ∙ one-mul (2 ^ h)

module _ (q : ℕ → Bool) (h set : ℕ) (l : h < 32) (e : set ≡ from_digits 2 h (λ v. cond (q v) 1 0)) where
  set_below : set < 2 ^ h
  set_below = rw e (digits_below 2 h (λ v. cond (q v) 1 0) (zero-lt-suc 1) (λ v _. bit_small (q v)))

  pub set_fits : set + 1 * 2 ^ h % 4294967296 < 4294967296
  set_fits =
      let a = set_below in
      let b : 2 ^ suc h ≤ 4294967296 = pow_mono {i = suc h} {j = 32} (omega arith) in
      rw (one_shifted h l) (omega (arith, pow-suc 2 h))

  pub set_more : q h ≡ true → set + 1 * 2 ^ h % 4294967296 ≡ from_digits 2 (h + 1) (λ v. cond (q v) 1 0)
  set_more t = rw (one_shifted h l, add-one h, digits_more 2 h (λ v. cond (q v) 1 0), t, e, one-mul (2 ^ h))

  pub set_skip : q h ≡ false → set ≡ from_digits 2 (h + 1) (λ v. cond (q v) 1 0)
  set_skip t = rw (add-one h, digits_more 2 h (λ v. cond (q v) 1 0), t, e, zero-mul (2 ^ h), add-zero)

-- THE BITS THAT A NUMBER HAS
-- 0 has none, and every other number has one
pub none_inside : (k : ℕ) → any_below k (inside 0) ≡ false
none_inside k = any_false k (inside 0) (λ v _. inside_none 0 v (pow_pos v))

pub some_inside : (k c : ℕ) → c < 2 ^ k → 0 < c → any_below k (inside c) ≡ true
unfolding any_below inside
some_inside zero c l p = absurd (omega arith)
some_inside (suc k) c l p =
    ⊎_elim (λ (e : ltb c (2 ^ k) ≡ true). or_right (inside c k) (any_below k (inside c)) (some_inside k c (ltb-true c (2 ^ k) e) p))
    (λ (e : ltb c (2 ^ k) ≡ false).
    let high : 2 ^ k ≤ c = ltb-false c (2 ^ k) e in
    let d : c / 2 ^ k ≡ 1 = div-eq_of_lt-le {k = 1} (2 ^ k) {m = c} (omega arith) (omega (arith, pow-suc 2 k)) in
    or_left (inside c k) (any_below k (inside c)) (rw d)) (test (ltb c (2 ^ k)))

-- A set is one of the vertices below n exactly if it is below 2 ^ n: a number of 2 ^ n or more has a bit from n on, one
-- of its quotient by 2 ^ n.
pub inside_below : (n c v : ℕ) → c < 2 ^ n → inside c v ≡ true → v < n
inside_below n c v l e =
    ⊎_elim (λ (t : ltb v n ≡ true). ltb-true v n t)
    (λ (t : ltb v n ≡ false).
    let high : n ≤ v = ltb-false v n t in
    absurd (not_both (inside c v) e (inside_none c v (omega (arith, pow_mono {i = n} {j = v} high))))) (test (ltb v n))

lt_power : (v : ℕ) → v < 2 ^ v
lt_power zero = omega arith
lt_power (suc v) = omega (arith, lt_power v, pow-suc 2 v)

pub below_inside : (n c : ℕ) → ((v : ℕ) → inside c v ≡ true → v < n) → c < 2 ^ n
unfolding inside
below_inside n c h =
    ⊎_elim (λ (t : ltb c (2 ^ n) ≡ true). ltb-true c (2 ^ n) t)
    (λ (t : ltb c (2 ^ n) ≡ false).
    let high : 2 ^ n ≤ c = ltb-false c (2 ^ n) t in
    let v = c / 2 ^ n in
    let j = any_found v (inside v) (some_inside v v (lt_power v) ((le-div_iff_mul-le {k = 2 ^ n} {x = 1} {y = c} (pow_pos n)).1 (omega arith))) in
    absurd (omega (arith, h (n + j.0) (rw (← shr-shr c n j.0) j.2)))) (test (ltb c (2 ^ n)))

-- as a program asks: nothing is left when the bits below n are shifted out
pub shifted_below : (n c : ℕ) → eqb (c / 2 ^ n) 0 ≡ ltb c (2 ^ n)
shifted_below n c =
    same_test (eqb (c / 2 ^ n) 0) (ltb c (2 ^ n))
    (λ e. lt-ltb c (2 ^ n) (omega (arith, (div-lt_iff_lt-mul {k = 2 ^ n} {x = c} {y = 1} (pow_pos n)).0 (omega (arith, eqb-true (c / 2 ^ n) 0 e)))))
    (λ e. eq-eqb (c / 2 ^ n) 0 (div-eq_of_lt (ltb-true c (2 ^ n) e)))
