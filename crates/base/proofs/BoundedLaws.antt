-- Laws of tests and sums over every number below a bound. Assumes nothing.
use mathlib.Core.Path.{◌≡◌, refl, sym, ◌∙◌, subst}
use mathlib.Core.Bool.{Bool, true, false, ◌&&◌, true≢false}
use mathlib.Core.Logic.{⊎_elim}
use Prim.Native.Nat.{ℕ, zero, suc, ◌+◌, ◌-◌, ◌≤◌, ◌<◌}
use native.Mathlib.Omega.{arith}
use native.Mathlib.Nat.{eq-or-lt_of_le}
use native.Mathlib.Decide.{ℕ_discrete}
use Rattle.base.specs.Bounded.{all_below, any_below, sum_below}
use Rattle.base.proofs.BoolLaws.{and_left, and_right, and_both, or_cases, or_left, or_right, or_both_false}

-- ALL
pub all_none : (P : ℕ → Bool) → all_below 0 P ≡ true
unfolding all_below
all_none P = refl

pub all_step : (k : ℕ) (P : ℕ → Bool) → 0 < k → all_below k P ≡ P (k - 1) && all_below (k - 1) P
unfolding all_below
all_step zero P h = absurd (omega arith)
all_step (suc k) P h = let e : suc k - 1 ≡ k = omega arith in rw e

-- a loop that counts down stops at a number that fails, and goes on at one that passes
pub all_fail : (k : ℕ) (P : ℕ → Bool) → 0 < k → P (k - 1) ≡ false → all_below k P ≡ false
all_fail k P h e = all_step k P h ∙ rw e

pub all_pass : (k : ℕ) (P : ℕ → Bool) → 0 < k → P (k - 1) ≡ true → all_below k P ≡ all_below (k - 1) P
all_pass k P h e = all_step k P h ∙ rw e

pub all_at : (k : ℕ) (P : ℕ → Bool) (i : ℕ) → i < k → all_below k P ≡ true → P i ≡ true
unfolding all_below
all_at zero P i h e = absurd (omega arith)
all_at (suc k) P i h e =
    ⊎_elim (λ (q : i ≡ k). subst (λ (j : ℕ). P j ≡ true) (sym q) (and_left (P k) (all_below k P) e))
    (λ (l : i < k). all_at k P i l (and_right (P k) (all_below k P) e)) (eq-or-lt_of_le (below h))
  where
    below : i < suc k → i ≤ k
    below l = omega arith

pub all_intro : (k : ℕ) (P : ℕ → Bool) → ((i : ℕ) → i < k → P i ≡ true) → all_below k P ≡ true
unfolding all_below
all_intro zero P h = refl
all_intro (suc k) P h = and_both (P k) (all_below k P) (h k (omega arith)) (all_intro k P (λ i l. h i (omega arith)))

pub all_same : (k : ℕ) (P Q : ℕ → Bool) → ((i : ℕ) → i < k → P i ≡ Q i) → all_below k P ≡ all_below k Q
unfolding all_below
all_same zero P Q e = refl
all_same (suc k) P Q e = rw (e k (omega arith), all_same k P Q (λ i l. e i (omega arith)))

-- ANY
pub any_intro : (k : ℕ) (P : ℕ → Bool) (i : ℕ) → i < k → P i ≡ true → any_below k P ≡ true
unfolding any_below
any_intro zero P i h e = absurd (omega arith)
any_intro (suc k) P i h e =
    ⊎_elim (λ (q : i ≡ k). or_left (P k) (any_below k P) (subst (λ (j : ℕ). P j ≡ true) q e))
    (λ (l : i < k). or_right (P k) (any_below k P) (any_intro k P i l e)) (eq-or-lt_of_le (below h))
  where
    below : i < suc k → i ≤ k
    below l = omega arith

pub any_found : (k : ℕ) (P : ℕ → Bool) → any_below k P ≡ true → (i : ℕ) × (i < k) × (P i ≡ true)
unfolding any_below
any_found zero P e = absurd (true≢false (sym e))
any_found (suc k) P e =
    ⊎_elim (λ (p : P k ≡ true). (k, omega arith, p)) (λ (p : any_below k P ≡ true). let r = any_found k P p in (r.0, omega (arith, r.1), r.2))
    (or_cases (P k) (any_below k P) e)

pub any_false : (k : ℕ) (P : ℕ → Bool) → ((i : ℕ) → i < k → P i ≡ false) → any_below k P ≡ false
unfolding any_below
any_false zero P h = refl
any_false (suc k) P h = or_both_false (P k) (any_below k P) (h k (omega arith)) (any_false k P (λ i l. h i (omega arith)))

-- SUMS
pub sum_mono : (k : ℕ) (f g : ℕ → ℕ) → ((q : ℕ) → q < k → f q ≤ g q) → sum_below k f ≤ sum_below k g
unfolding sum_below
sum_mono zero f g h = omega arith
sum_mono (suc k) f g h =
    let a = h k (omega arith) in
    let b = sum_mono k f g (λ q l. h q (omega arith)) in
    omega arith

-- one place where there is room
pub sum_room : (k : ℕ) (f g : ℕ → ℕ) → ((q : ℕ) → q < k → f q ≤ g q) → (q : ℕ) → q < k → sum_below k f + (g q - f q) ≤ sum_below k g
unfolding sum_below
sum_room zero f g h q l = absurd (omega arith)
sum_room (suc k) f g h q l =
    let a = h k (omega arith) in
    let rest : (r : ℕ) → r < k → f r ≤ g r = λ r m. h r (omega arith) in
    let b = sum_mono k f g rest in
    go (ℕ_discrete q k) rest a b (sum_room k f g rest q)
  where
    go : Dec (q ≡ k) → ((r : ℕ) → r < k → f r ≤ g r) → f k ≤ g k → sum_below k f ≤ sum_below k g
        → (q < k → sum_below k f + (g q - f q) ≤ sum_below k g) → f k + sum_below k f + (g q - f q) ≤ g k + sum_below k g
    go (yes e) rest a b ih = rw e (omega arith)
    go (no n) rest a b ih = let c = ih (omega arith) in omega arith

pub sum_add : (k : ℕ) (f g : ℕ → ℕ) → sum_below k (λ q. f q + g q) ≡ sum_below k f + sum_below k g
unfolding sum_below
sum_add zero f g = refl
sum_add (suc k) f g = let a = sum_add k f g in omega arith

pub sum_zero : (k : ℕ) → sum_below k (λ q. 0) ≡ 0
unfolding sum_below
sum_zero zero = refl
sum_zero (suc k) = let a = sum_zero k in omega arith

pub sum_eq : (k : ℕ) (f g : ℕ → ℕ) → ((q : ℕ) → q < k → f q ≡ g q) → sum_below k f ≡ sum_below k g
unfolding sum_below
sum_eq zero f g h = refl
sum_eq (suc k) f g h =
    let a = h k (omega arith) in
    let b = sum_eq k f g (λ q l. h q (omega arith)) in
    omega arith
