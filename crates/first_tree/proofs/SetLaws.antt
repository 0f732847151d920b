-- Sets of vertices as a program works on them: two sets met, two joined, one vertex, the least member. Assumes nothing.
use mathlib.Core.Path.{◌≡◌, refl, sym, ap, ◌∙◌}
use mathlib.Core.Bool.{true, false, ◌&&◌, ◌||◌}
use mathlib.Core.Logic.{◌⊎◌, inl, inr, ⊎_elim, ◌≢◌}
use Prim.Native.Nat.{ℕ, zero, suc, ◌+◌, ◌/◌, ◌%◌, ◌^◌, ◌≤◌, ◌<◌}
use native.Mathlib.Omega.{arith}
use native.Mathlib.Nat.{zero-add, pow-suc}
use lib.Bits.{bit_and, bit_or, and_shr, and_mod, or_shr, or_mod, or_add_and, and_le_r}
use lib.Count.{under, count_trailing_zeros}
use lib.Dec.{ltb, eqb}
use lib.Pow.{pow-lt, pow_pos, shr-shr}
use borrow.Author.Tests.{ltb-true, ltb-false, eqb-true, eqb-false, eq-eqb, ne_eqb}
use Rattle.base.proofs.BoolLaws.{test}
use Rattle.instance.specs.Cuts.{inside}
use Rattle.instance.proofs.SetBits.{inside_low, inside_top, inside_none}

-- TWO SETS
-- a digit is 0 or 1
digit_cases : (x : ℕ) → x < 2 → (x ≡ 0) ⊎ (x ≡ 1)
digit_cases zero l = inl refl
digit_cases (suc zero) l = inr refl
digit_cases (suc (suc x)) l = absurd (omega arith)

digit_and : (x y : ℕ) → x < 2 → y < 2 → eqb (bit_and x y) 1 ≡ eqb x 1 && eqb y 1
digit_and x y l m =
    ⊎_elim (λ (e : x ≡ 0). rw e)
    (λ (e : x ≡ 1). ⊎_elim (λ (f : y ≡ 0). rw (e, f)) (λ (f : y ≡ 1). rw (e, f)) (digit_cases y m)) (digit_cases x l)

digit_or : (x y : ℕ) → x < 2 → y < 2 → eqb (bit_or x y) 1 ≡ eqb x 1 || eqb y 1
digit_or x y l m =
    ⊎_elim (λ (e : x ≡ 0). rw e)
    (λ (e : x ≡ 1). ⊎_elim (λ (f : y ≡ 0). rw (e, f)) (λ (f : y ≡ 1). rw (e, f)) (digit_cases y m)) (digit_cases x l)

pub inside_and : (a b v : ℕ) → inside (bit_and a b) v ≡ inside a v && inside b v
unfolding inside
inside_and a b v =
    ap (λ (x : ℕ). eqb (x % 2) 1) (and_shr a b v) ∙ ap (λ (x : ℕ). eqb x 1) (and_mod (a / 2 ^ v) (b / 2 ^ v) 1)
    ∙ digit_and (a / 2 ^ v % 2) (b / 2 ^ v % 2) (omega arith) (omega arith)

pub inside_or : (a b v : ℕ) → inside (bit_or a b) v ≡ inside a v || inside b v
unfolding inside
inside_or a b v =
    ap (λ (x : ℕ). eqb (x % 2) 1) (or_shr a b v) ∙ ap (λ (x : ℕ). eqb x 1) (or_mod (a / 2 ^ v) (b / 2 ^ v) 1)
    ∙ digit_or (a / 2 ^ v % 2) (b / 2 ^ v % 2) (omega arith) (omega arith)

-- a set joined with another is no smaller
pub or_least : (a b : ℕ) → a ≤ bit_or a b
or_least a b = let e = or_add_and a b in let l = and_le_r a b in omega arith

-- ONE VERTEX
below_or_above : (u v : ℕ) → u ≢ v → (u < v) ⊎ (v < u)
below_or_above u v d =
    ⊎_elim (λ (b : ltb u v ≡ true). inl (ltb-true u v b)) (λ (b : ltb u v ≡ false). inr (let l = ltb-false u v b in omega arith)) (test (ltb u v))

pub inside_one : (t v : ℕ) → inside (2 ^ t) v ≡ eqb v t
inside_one t v =
    ⊎_elim
    (λ (b : eqb v t ≡ true). at_same (eqb-true v t b))
    (λ (b : eqb v t ≡ false). at_other (eqb-false v t b)) (test (eqb v t))
  where
    at_same : v ≡ t → inside (2 ^ t) v ≡ eqb v t
    at_same e = rw (e, eq-eqb t t refl) (ap (λ (x : ℕ). inside x t) (sym (zero-add (2 ^ t))) ∙ inside_top 0 t (pow_pos t))

    at_other : v ≢ t → inside (2 ^ t) v ≡ eqb v t
    at_other d = rw (ne_eqb v t d) (go (below_or_above v t d))
      where
        go : (v < t) ⊎ (t < v) → inside (2 ^ t) v ≡ false
        go (inl l) = ap (λ (x : ℕ). inside x v) (sym (zero-add (2 ^ t))) ∙ inside_low 0 t v l ∙ inside_none 0 v (pow_pos v)
        go (inr l) = inside_none (2 ^ t) v (pow-lt {i = t} {j = v} l)

-- THE LEAST MEMBER of a set that is not empty
inside_half : (c j : ℕ) → inside c (suc j) ≡ inside (c / 2) j
unfolding inside
inside_half c j =
    let e : 1 + j ≡ suc j = omega arith in
    ap (λ (x : ℕ). eqb (c / 2 ^ x % 2) 1) (sym e) ∙ ap (λ (x : ℕ). eqb (x % 2) 1) (sym (shr-shr c 1 j))

inside_odd : (c : ℕ) → c % 2 ≡ 1 → inside c 0 ≡ true
unfolding inside
inside_odd c e = let d : c / 1 ≡ c = omega arith in rw (d, e)

pub least_inside : (k c : ℕ) → 0 < c → c < 2 ^ k → (count_trailing_zeros k c < k) × (inside c (count_trailing_zeros k c) ≡ true)
unfolding count_trailing_zeros
least_inside zero c p l = absurd (omega arith)
least_inside (suc k) c p l =
    let half : c / 2 < 2 ^ k = let e = pow-suc 2 k in omega arith in
    at (λ (q : 0 < c / 2). least_inside k (c / 2) q half) (digit_cases (c % 2) (omega arith))
  where
    at : (0 < c / 2 → (count_trailing_zeros k (c / 2) < k) × (inside (c / 2) (count_trailing_zeros k (c / 2)) ≡ true)) → (c % 2 ≡ 0) ⊎ (c % 2 ≡ 1)
        → (under (c % 2) (count_trailing_zeros k (c / 2)) < suc k) × (inside c (under (c % 2) (count_trailing_zeros k (c / 2))) ≡ true)
    at r (inl e) = let s = r (omega arith) in rw e (omega (arith, s.0), inside_half c (count_trailing_zeros k (c / 2)) ∙ s.1)
    at r (inr e) = rw e (omega arith, inside_odd c e)
