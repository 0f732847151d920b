-- Laws of counting, and sums with one place that is not 0. Assumes nothing.
use mathlib.Core.Path.{◌≡◌, refl, sym}
use mathlib.Core.Bool.{Bool, true, false, cond}
use mathlib.Core.Logic.{◌≢◌}
use Prim.Native.Nat.{ℕ, zero, suc, ◌+◌, ◌≤◌, ◌<◌}
use native.Mathlib.Omega.{arith}
use native.Mathlib.Decide.{ℕ_discrete}
use Rattle.base.specs.Bounded.{sum_below, count_below}
use Rattle.base.proofs.BoolLaws.{not_both}
use Rattle.base.proofs.BoundedLaws.{sum_mono, sum_room, sum_zero, sum_eq}

one_le : (b d : Bool) → (b ≡ true → d ≡ true) → cond b 1 0 ≤ cond d 1 0
one_le true true h = omega arith
one_le false true h = omega arith
one_le false false h = omega arith
one_le true false h = absurd (not_both false (h refl) refl)

sum_ones : (k : ℕ) → sum_below k (λ v. 1) ≡ k
unfolding sum_below
sum_ones zero = refl
sum_ones (suc k) = let a = sum_ones k in omega arith

at_most_one : (b : Bool) → cond b 1 0 ≤ 1
at_most_one true = omega arith
at_most_one false = omega arith

pub count_le : (k : ℕ) (P : ℕ → Bool) → count_below k P ≤ k
unfolding count_below
count_le k P = let a = sum_mono k (λ v. cond (P v) 1 0) (λ v. 1) (λ v l. at_most_one (P v)) in let b = sum_ones k in omega arith

-- one more passes the second test
pub count_more : (k : ℕ) (P Q : ℕ → Bool) → ((v : ℕ) → v < k → P v ≡ true → Q v ≡ true) → (u : ℕ) → u < k → P u ≡ false → Q u ≡ true
    → count_below k P + 1 ≤ count_below k Q
unfolding count_below
count_more k P Q h u l p q =
    let a = sum_room k (λ v. cond (P v) 1 0) (λ v. cond (Q v) 1 0) (λ v m. one_le (P v) (Q v) (h v m)) u l in
    let e₀ : ◌≡◌ {A = ℕ} (cond (P u) 1 0) 0 = rw p in
    let e₁ : ◌≡◌ {A = ℕ} (cond (Q u) 1 0) 1 = rw q in
    omega arith

pub count_one : (k : ℕ) (Q : ℕ → Bool) (u : ℕ) → u < k → Q u ≡ true → 1 ≤ count_below k Q
unfolding count_below
count_one k Q u l q =
    let a = sum_room k (λ v. 0) (λ v. cond (Q v) 1 0) (λ v m. omega arith) u l in
    let z = sum_zero k in
    let e : ◌≡◌ {A = ℕ} (cond (Q u) 1 0) 1 = rw q in
    omega arith

pub sum_one : (k : ℕ) (f : ℕ → ℕ) (u : ℕ) → u < k → ((v : ℕ) → v < k → v ≢ u → f v ≡ 0) → sum_below k f ≡ f u
unfolding sum_below
sum_one zero f u l z = absurd (omega arith)
sum_one (suc k) f u l z = go (ℕ_discrete u k) (sum_one k f u)
  where
    go : Dec (u ≡ k) → (u < k → ((v : ℕ) → v < k → v ≢ u → f v ≡ 0) → sum_below k f ≡ f u) → f k + sum_below k f ≡ f u
    go (yes e) ih =
        let s = sum_eq k f (λ v. 0) (λ v m. z v (omega arith) (omega arith)) in
        let o = sum_zero k in
        rw e (omega arith)
    go (no ne) ih =
        let r = ih (omega arith) (λ v m d. z v (omega arith) d) in
        let o = z k (omega arith) (λ d. ne (sym d)) in
        omega arith
