-- Numbers put together from digits: how large they are, and that each digit can be read again. One law over the base:
-- a set of vertices is in base 2, marks are kept in base 4. Assumes nothing.
use mathlib.Core.Path.{◌≡◌, refl, ap, ◌∙◌}
use mathlib.Core.Bool.{Bool, true, false, ◌||◌, not, cond}
use mathlib.Core.Logic.{⊎_elim}
use Prim.Native.Nat.{ℕ, zero, suc, ◌+◌, ◌*◌, ◌-◌, ◌/◌, ◌%◌, ◌^◌, ◌≤◌, ◌<◌}
use native.Mathlib.Omega.{arith}
use native.Mathlib.Nat.{pow-suc, pow-zero, add-mul-div_left, add-mul-mod_self_left, div-eq_of_lt, mod-eq_of_lt, zero-add, mul_comm, mul_assoc, suc-mul, mul-le-mul, le_refl, one-le-pow, one-mul, zero-mul, add-zero, zero-lt-suc, eq-or-lt_of_le}
use lib.Dec.{eqb}
use lib.Pow.{pow-add}
use borrow.Author.Tests.{ne_eqb}
use Rattle.base.specs.Bounded.{any_below, sum_below}
use Rattle.base.specs.Digits.{from_digits, digit}

-- ONE DIGIT MORE, at the place p
split_pow : (b p q : ℕ) → q < p → b ^ p ≡ b ^ q * (b * b ^ (p - (q + 1)))
split_pow b p q l =
    let e : p ≡ q + suc (p - (q + 1)) = omega arith in
    ap (λ (x : ℕ). b ^ x) e ∙ pow-add b q (suc (p - (q + 1))) ∙ ap (λ (x : ℕ). b ^ q * x) (pow-suc b (p - (q + 1)) ∙ mul_comm (b ^ (p - (q + 1))) b)

swapped : (m x y z : ℕ) → m * (x * (y * z)) ≡ x * (y * (m * z))
swapped m x y z =
    mul_comm m (x * (y * z)) ∙ mul_assoc x (y * z) m ∙ ap (λ (w : ℕ). x * w) (mul_assoc y z m ∙ ap (λ (w : ℕ). y * w) (mul_comm z m))

module _ (b : ℕ) (pos : 0 < b) where
  -- a lower digit is as before
  pub digit_low : (s m p q : ℕ) → q < p → digit b (s + m * b ^ p) q ≡ digit b s q
  unfolding digit
  digit_low s m p q l =
      let z = b ^ (p - (q + 1)) in
      let e : m * b ^ p ≡ b ^ q * (b * (m * z)) = ap (λ (x : ℕ). m * x) (split_pow b p q l) ∙ swapped m (b ^ q) b z in
      ap (λ (x : ℕ). (s + x) / b ^ q % b) e ∙ ap (λ (x : ℕ). x % b) (add-mul-div_left s (b * (m * z)) (one-le-pow q b pos))
      ∙ add-mul-mod_self_left (s / b ^ q) b (m * z)

  -- the one added is the digit
  pub digit_top : (s m p : ℕ) → s < b ^ p → m < b → digit b (s + m * b ^ p) p ≡ m
  unfolding digit
  digit_top s m p l small =
      ap (λ (x : ℕ). (s + x) / b ^ p % b) (mul_comm m (b ^ p)) ∙ ap (λ (x : ℕ). x % b) (add-mul-div_left s m (one-le-pow p b pos))
      ∙ ap (λ (x : ℕ). (x + m) % b) (div-eq_of_lt l) ∙ rw zero-add (mod-eq_of_lt small)

-- ALL DIGITS
pub digits_none : (b : ℕ) (g : ℕ → ℕ) → from_digits b 0 g ≡ 0
unfolding from_digits sum_below
digits_none b g = refl

pub digits_more : (b k : ℕ) (g : ℕ → ℕ) → from_digits b (suc k) g ≡ from_digits b k g + g k * b ^ k
unfolding from_digits sum_below
digits_more b k g = omega arith

pub digits_below : (b k : ℕ) (g : ℕ → ℕ) → 0 < b → ((h : ℕ) → h < k → g h < b) → from_digits b k g < b ^ k
digits_below b zero g pos small = rw (digits_none b g, pow-zero b) (omega arith)
digits_below b (suc k) g pos small =
    let r = digits_below b k g pos (λ h l. small h (omega arith)) in
    let m : suc (g k) * b ^ k ≤ b * b ^ k = mul-le-mul (small k (omega arith)) (le_refl (b ^ k)) in
    rw (digits_more b k g, pow-suc b k, mul_comm (b ^ k) b) (omega (arith, r, m, suc-mul (g k) (b ^ k)))

-- EACH DIGIT IS READ AGAIN
pub digit_of : (b k : ℕ) (g : ℕ → ℕ) → 0 < b → ((h : ℕ) → h < k → g h < b) → (h : ℕ) → h < k → digit b (from_digits b k g) h ≡ g h
digit_of b zero g pos small h l = absurd (omega arith)
digit_of b (suc k) g pos small h l =
    rw (digits_more b k g)
    (⊎_elim (λ (e : h ≡ k). rw e (digit_top b pos (from_digits b k g) (g k) k (digits_below b k g pos (λ i m. small i (omega arith))) (small k (omega arith))))
    (λ (m : h < k). digit_low b pos (from_digits b k g) (g k) k h m ∙ digit_of b k g pos (λ i j. small i (omega arith)) h m)
    (eq-or-lt_of_le {n = h} {m = k} (omega arith)))

-- the same digits, the same number
pub digits_same : (b k : ℕ) (f g : ℕ → ℕ) → ((h : ℕ) → h < k → f h ≡ g h) → from_digits b k f ≡ from_digits b k g
digits_same b zero f g e = rw (digits_none b f, digits_none b g)
digits_same b (suc k) f g e = rw (digits_more b k f, digits_more b k g, digits_same b k f g (λ h l. e h (omega arith)), e k (omega arith))

-- a number of digits in base 2 is 0 exactly if no digit is 1
pub digits_zero : (k : ℕ) (q : ℕ → Bool) → eqb (from_digits 2 k (λ h. cond (q h) 1 0)) 0 ≡ not (any_below k q)
unfolding any_below
digits_zero zero q = rw (digits_none 2 (λ h. cond (q h) 1 0))
digits_zero (suc k) q = rw (digits_more 2 k (λ h. cond (q h) 1 0)) (at (q k) (from_digits 2 k (λ h. cond (q h) 1 0)) (digits_zero k q))
  where
    at : (b : Bool) (x : ℕ) → eqb x 0 ≡ not (any_below k q) → eqb (x + cond b 1 0 * 2 ^ k) 0 ≡ not (b || any_below k q)
    at true x e = ne_eqb (x + 1 * 2 ^ k) 0 (λ z. omega (arith, one-mul (2 ^ k), one-le-pow k 2 (zero-lt-suc 1)))
    at false x e = rw (zero-mul (2 ^ k), add-zero x) e
