-- The loops over the heads of a set: a number of two bits a head, put together head by head, and marks put at one head
-- more. Assumes nothing.
use mathlib.Core.Path.{◌≡◌, refl, sym, ap, ◌∙◌}
use mathlib.Core.Bool.{Bool, true, false, ◌&&◌, ◌||◌}
use mathlib.Core.List.{List}
use Prim.Native.Nat.{ℕ, zero, suc, ◌+◌, ◌*◌, ◌%◌, ◌^◌, ◌≤◌, ◌<◌}
use native.Mathlib.Omega.{arith}
use native.Mathlib.Nat.{pow-suc, zero-mul, add-zero, zero-lt-suc, mul_assoc}
use native.Mathlib.Decide.{ℕ_discrete}
use native.Mathlib.Numerals.{add-one}
use lib.Dec.{ltb, eqb}
use lib.ListN.{set}
use lib.Pow.{pow_mono, shl_exact}
use borrow.Author.Tests.{lt-ltb, le-ltb, eq-eqb, ne_eqb}
use Rattle.base.specs.Digits.{from_digits}
use Rattle.base.proofs.BoolLaws.{and_false_right}
use Rattle.base.proofs.FillingLaws.{ltb_more}
use Rattle.base.proofs.DigitLaws.{digits_more, digits_below}
use Rattle.instance.specs.Instance.{cell}
use Rattle.commands.specs.Heads.{put_marks}
use Rattle.commands.proofs.HeadsLaws.{put_same, put_none, put_one}

-- MARKS, two bits a head
pub four_pow : (h : ℕ) → 2 ^ (2 * h) ≡ 4 ^ h
four_pow zero = refl
four_pow (suc h) =
    let e : 2 * suc h ≡ suc (suc (2 * h)) = omega arith in
    ap (λ (x : ℕ). 2 ^ x) e ∙ pow-suc 2 (suc (2 * h)) ∙ ap (λ (x : ℕ). x * 2) (pow-suc 2 (2 * h)) ∙ mul_assoc (2 ^ (2 * h)) 2 2
    ∙ ap (λ (x : ℕ). x * 4) (four_pow h) ∙ sym (pow-suc 4 h)

module _ (g : ℕ → ℕ) (small : (v : ℕ) → v < 32 → g v < 4) (h value : ℕ) (l : h < 32) (e : value ≡ from_digits 4 h g) where
  shifted_mark : g h * 2 ^ (2 * h) % 18446744073709551616 ≡ g h * 4 ^ h
  shifted_mark = shl_exact {a = g h} 2 (2 * h) 64 (small h l) (omega arith) ∙ ap (λ (x : ℕ). g h * x) (four_pow h)

  pub mark_more : value + g h * 2 ^ (2 * h) % 18446744073709551616 ≡ from_digits 4 (h + 1) g
  mark_more = rw (shifted_mark, add-one h, digits_more 4 h g, e)

  pub mark_fits : value + g h * 2 ^ (2 * h) % 18446744073709551616 < 18446744073709551616
  mark_fits =
      let a = digits_below 4 (suc h) g (zero-lt-suc 3) (λ v k. small v (omega arith)) in
      let b : 2 ^ (2 * suc h) ≤ 18446744073709551616 = pow_mono {i = 2 * suc h} {j = 64} (omega arith) in
      rw (mark_more, add-one h) (omega (arith, a, b, four_pow (suc h)))

  pub mark_skip : g h ≡ 0 → value ≡ from_digits 4 (h + 1) g
  mark_skip t = rw (add-one h, digits_more 4 h g, t, e, zero-mul (4 ^ h), add-zero)

-- MARKS PUT, head by head: those of the heads below h that pass
abbrev pub heads_to : (p : ℕ → Bool) → (h : ℕ) → (v : ℕ) → Bool
heads_to p h v = ltb v h && p v

one_head_more : (p : ℕ → Bool) (h v : ℕ) → p h ≡ true → eqb v h || heads_to p h v ≡ heads_to p (h + 1) v
one_head_more p h v t = at (ℕ_discrete v h)
  where
    at : Dec (v ≡ h) → eqb v h || heads_to p h v ≡ heads_to p (h + 1) v
    at (yes e) = rw (eq-eqb v h e, e, lt-ltb h (h + 1) (omega arith), t)
    at (no n) = rw (ne_eqb v h n, ltb_more h v n)

head_left : (p : ℕ → Bool) (h v : ℕ) → p h ≡ false → heads_to p h v ≡ heads_to p (h + 1) v
head_left p h v t = at (ℕ_discrete v h)
  where
    at : Dec (v ≡ h) → heads_to p h v ≡ heads_to p (h + 1) v
    at (yes e) = rw (e, t) (and_false_right (ltb h h) false refl ∙ sym (and_false_right (ltb h (h + 1)) false refl))
    at (no n) = rw (ltb_more h v n)

module _ (t : ℕ) (p : ℕ → Bool) (g : ℕ → ℕ) (old : List ℕ) where
  pub put_start : old ≡ put_marks t (heads_to p 0) g old
  put_start = sym (put_none t (heads_to p 0) g old (λ h l. rw (le-ltb h 0 (omega arith))))

  module _ (h : ℕ) (new : List ℕ) (l : h < 32) (e : new ≡ put_marks t (heads_to p h) g old) where
    pub put_next : (m : ℕ) → p h ≡ true → m ≡ g h → set new (cell t h) m ≡ put_marks t (heads_to p (h + 1)) g old
    put_next m y z =
        rw (e, z)
        (put_one t (heads_to p h) g old h l ∙ put_same t (λ v. eqb v h || heads_to p h v) (heads_to p (h + 1)) g g old (λ v _. one_head_more p h v y) (λ v _ _. refl))

    pub put_skip : p h ≡ false → new ≡ put_marks t (heads_to p (h + 1)) g old
    put_skip y = e ∙ put_same t (heads_to p h) (heads_to p (h + 1)) g g old (λ v _. head_left p h v y) (λ v _ _. refl)

  pub put_end : (h : ℕ) (new : List ℕ) → h ≡ 32 → new ≡ put_marks t (heads_to p h) g old → new ≡ put_marks t p g old
  put_end h new z e = e ∙ put_same t (heads_to p h) p g g old (λ v l. rw (lt-ltb v h (omega arith))) (λ v _ _. refl)
