-- Sums, counts and tests over every number below a bound: one number more, the first split off, one place that differs,
-- a bound on each place, and the count of all but one. Assumes nothing.
use mathlib.Core.Path.{◌≡◌, refl, sym, ap, ◌∙◌}
use mathlib.Core.Bool.{Bool, true, false, ◌&&◌, not, cond}
use mathlib.Core.Logic.{⊎_elim, ◌≢◌}
use Prim.Native.Nat.{ℕ, zero, suc, ◌+◌, ◌*◌, ◌≤◌, ◌<◌}
use native.Mathlib.Omega.{arith}
use native.Mathlib.Decide.{ℕ_discrete}
use native.Mathlib.Nat.{suc-mul, eq-or-lt_of_le}
use native.Mathlib.Numerals.{add-one}
use lib.Dec.{eqb}
use borrow.Author.Tests.{eqb-true, eq-eqb, ne_eqb, not-true}
use Rattle.base.specs.Bounded.{any_below, sum_below, count_below}
use Rattle.base.proofs.BoolLaws.{test, not_both, and_left, and_right, and_both}
use Rattle.base.proofs.BoundedLaws.{any_found, any_intro}
use Rattle.base.proofs.CountingLaws.{count_more, count_one, sum_one}

-- SUMS
-- a bound that has grown by one
pub sum_more : (k : ℕ) (f : ℕ → ℕ) → sum_below (k + 1) f ≡ f k + sum_below k f
unfolding sum_below
sum_more k f = rw add-one

pub sum_shift : (k : ℕ) (f : ℕ → ℕ) → sum_below (suc k) f ≡ f 0 + sum_below k (λ j. f (suc j))
unfolding sum_below
sum_shift zero f = refl
sum_shift (suc k) f = let e = sum_shift k f in omega arith

-- two sums that differ at one place
pub sum_change : (k : ℕ) (f g : ℕ → ℕ) (h : ℕ) → h < k → ((q : ℕ) → q < k → q ≢ h → f q ≡ g q) → sum_below k f + g h ≡ sum_below k g + f h
unfolding sum_below
sum_change zero f g h l e = absurd (omega arith)
sum_change (suc k) f g h l e = at (ℕ_discrete h k) (λ m. sum_change k f g h m (λ q b. e q (omega arith)))
  where
    same : (j : ℕ) → j ≤ k → h ≡ k → sum_below j f ≡ sum_below j g
    same zero b z = refl
    same (suc j) b z = let x = same j (omega arith) z in let y = e j (omega arith) (λ w. omega arith) in omega arith

    at : Dec (h ≡ k) → (h < k → sum_below k f + g h ≡ sum_below k g + f h) → (f k + sum_below k f) + g h ≡ (g k + sum_below k g) + f h
    at (yes z) r = let x = same k (omega arith) z in rw z (omega arith)
    at (no z) r = let x = r (omega arith) in let y = e k (omega arith) (λ w. z (sym w)) in omega arith

pub sum_most : (k : ℕ) (f : ℕ → ℕ) (most : ℕ) → ((q : ℕ) → q < k → f q ≤ most) → sum_below k f ≤ k * most
unfolding sum_below
sum_most zero f most h = omega arith
sum_most (suc k) f most h = let a = h k (omega arith) in let b = sum_most k f most (λ q l. h q (omega arith)) in omega (arith, suc-mul k most)

-- more numbers, a larger sum
pub sum_longer : (g : ℕ → ℕ) (k n : ℕ) → k ≤ n → sum_below k g ≤ sum_below n g
unfolding sum_below
sum_longer g k zero h = let e : k ≡ 0 = omega arith in rw e (omega arith)
sum_longer g k (suc n) h =
    ⊎_elim (λ (e : k ≡ suc n). rw e (omega arith)) (λ (l : k < suc n). let r = sum_longer g k n (omega arith) in omega arith) (eq-or-lt_of_le h)

-- COUNTS
pub count_step : (k : ℕ) (P : ℕ → Bool) → count_below (k + 1) P ≡ cond (P k) 1 0 + count_below k P
unfolding count_below
count_step k P = sum_more k (λ v. cond (P v) 1 0)

-- t passes; another does unless the count is 1
pub others_count : (n t : ℕ) (P : ℕ → Bool) → t < n → P t ≡ true → any_below n (λ g. not (eqb g t) && P g) ≡ not (eqb (count_below n P) 1)
unfolding count_below
others_count n t P l p = at (any_below n (λ g. not (eqb g t) && P g)) refl
  where
    several : any_below n (λ g. not (eqb g t) && P g) ≡ true → 2 ≤ count_below n P
    several e =
        let f = any_found n (λ g. not (eqb g t) && P g) e in
        let one = count_one n (λ g. eqb g t) t l (eq-eqb t t refl) in
        let two =
        count_more n (λ g. eqb g t) P (λ g b z. rw (eqb-true g t z) p) f.0 f.1
        (not-true (eqb f.0 t) (and_left (not (eqb f.0 t)) (P f.0) f.2)) (and_right (not (eqb f.0 t)) (P f.0) f.2) in
        omega arith

    alone : any_below n (λ g. not (eqb g t) && P g) ≡ false → (g : ℕ) → g < n → g ≢ t → P g ≡ false
    alone e g b z =
        ⊎_elim
        (λ (y : P g ≡ true).
        absurd
        (not_both (any_below n (λ k. not (eqb k t) && P k))
        (any_intro n (λ k. not (eqb k t) && P k) g b (and_both (not (eqb g t)) (P g) (ap not (ne_eqb g t z)) y)) e))
        (λ (y : P g ≡ false). y) (test (P g))

    one : any_below n (λ g. not (eqb g t) && P g) ≡ false → count_below n P ≡ 1
    one e = sum_one n (λ g. cond (P g) 1 0) t l (λ g b z. rw (alone e g b z)) ∙ rw p

    at : (b : Bool) → any_below n (λ g. not (eqb g t) && P g) ≡ b → b ≡ not (eqb (count_below n P) 1)
    at true e = let k = several e in sym (ap not (ne_eqb (count_below n P) 1 (λ z. omega arith)))
    at false e = sym (ap not (eq-eqb (count_below n P) 1 (one e)))

-- TESTS
pub any_same : (k : ℕ) (P Q : ℕ → Bool) → ((i : ℕ) → i < k → P i ≡ Q i) → any_below k P ≡ any_below k Q
unfolding any_below
any_same zero P Q e = refl
any_same (suc k) P Q e = rw (e k (omega arith), any_same k P Q (λ i l. e i (omega arith)))
