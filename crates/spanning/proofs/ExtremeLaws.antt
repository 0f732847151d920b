-- Laws of the least and the greatest of some numbers. Assumes nothing.
use mathlib.Core.Path.{◌≡◌, refl, sym, ◌∙◌, subst}
use mathlib.Core.Logic.{◌≢◌}
use Prim.Native.Nat.{ℕ, zero, suc, min, max, ◌+◌, ◌≤◌, ◌<◌}
use native.Mathlib.Omega.{arith}
use native.Mathlib.Numerals.{add-one}
use native.Mathlib.Decide.{ℕ_discrete}
use Rattle.spanning.specs.Extremes.{least_below, greatest_below}

-- THE LEAST
module _ (m : ℕ) (f : ℕ → ℕ) where
  pub least_more : (k : ℕ) → least_below m (k + 1) f ≡ min (f k) (least_below m k f)
  unfolding least_below
  least_more k = rw add-one

  pub least_cap : (k : ℕ) → least_below m k f ≤ m
  unfolding least_below
  least_cap zero = omega arith
  least_cap (suc k) = let r = least_cap k in omega arith

  pub least_le : (k i : ℕ) → i < k → least_below m k f ≤ f i
  unfolding least_below
  least_le zero i l = absurd (omega arith)
  least_le (suc k) i l = at (ℕ_discrete i k) (λ b. least_le k i b)
    where
      at : Dec (i ≡ k) → (i < k → least_below m k f ≤ f i) → min (f k) (least_below m k f) ≤ f i
      at (yes z) rec = rw z (omega arith)
      at (no z) rec = let r = rec (omega arith) in omega arith

  pub least_found : (k : ℕ) → least_below m k f < m → (i : ℕ) × (i < k) × (f i ≡ least_below m k f)
  unfolding least_below
  least_found zero l = absurd (omega arith)
  least_found (suc k) l = at (ℕ_discrete (min (f k) (least_below m k f)) (f k)) (λ b. least_found k b)
    where
      at : Dec (min (f k) (least_below m k f) ≡ f k) → (least_below m k f < m → (i : ℕ) × (i < k) × (f i ≡ least_below m k f))
          → (i : ℕ) × (i < suc k) × (f i ≡ min (f k) (least_below m k f))
      at (yes z) rec = (k, omega arith, sym z)
      at (no z) rec =
          let e : min (f k) (least_below m k f) ≡ least_below m k f = other (f k) (least_below m k f) z in
          let b : least_below m k f < m = omega arith in
          let r = rec b in (r.0, omega (arith, r.1), r.2 ∙ sym e)
        where
          other : (a b : ℕ) → min a b ≢ a → min a b ≡ b
          other a b n = either (ℕ_discrete (min a b) b)
            where
              either : Dec (min a b ≡ b) → min a b ≡ b
              either (yes e) = e
              either (no e) = absurd (n (omega arith))

-- nothing below the cap
pub least_none : (m : ℕ) (f : ℕ → ℕ) (k : ℕ) → ((i : ℕ) → i < k → f i ≡ m) → least_below m k f ≡ m
unfolding least_below
least_none m f zero h = refl
least_none m f (suc k) h = let a = h k (omega arith) in let b = least_none m f k (λ i l. h i (omega arith)) in omega arith

-- THE GREATEST
module _ (f : ℕ → ℕ) where
  pub greatest_le : (k i : ℕ) → i < k → f i ≤ greatest_below k f
  unfolding greatest_below
  greatest_le zero i l = absurd (omega arith)
  greatest_le (suc k) i l = at (ℕ_discrete i k) (λ b. greatest_le k i b)
    where
      at : Dec (i ≡ k) → (i < k → f i ≤ greatest_below k f) → f i ≤ max (f k) (greatest_below k f)
      at (yes z) rec = rw z (omega arith)
      at (no z) rec = let r = rec (omega arith) in omega arith

  pub greatest_found : (k : ℕ) → greatest_below k f ≢ 0 → (i : ℕ) × (i < k) × (f i ≡ greatest_below k f)
  unfolding greatest_below
  greatest_found zero n = absurd (n refl)
  greatest_found (suc k) n = at (ℕ_discrete (max (f k) (greatest_below k f)) (f k)) (λ b. greatest_found k b)
    where
      at : Dec (max (f k) (greatest_below k f) ≡ f k) → (greatest_below k f ≢ 0 → (i : ℕ) × (i < k) × (f i ≡ greatest_below k f))
          → (i : ℕ) × (i < suc k) × (f i ≡ max (f k) (greatest_below k f))
      at (yes z) rec = (k, omega arith, sym z)
      at (no z) rec =
          let e : max (f k) (greatest_below k f) ≡ greatest_below k f = other (f k) (greatest_below k f) z in
          let r = rec (λ q. n (e ∙ q)) in
          (r.0, omega (arith, r.1), r.2 ∙ sym e)
        where
          other : (a b : ℕ) → max a b ≢ a → max a b ≡ b
          other a b n = either (ℕ_discrete (max a b) b)
            where
              either : Dec (max a b ≡ b) → max a b ≡ b
              either (yes e) = e
              either (no e) = absurd (n (omega arith))

pub greatest_same : (k : ℕ) (f g : ℕ → ℕ) → ((i : ℕ) → i < k → f i ≡ g i) → greatest_below k f ≡ greatest_below k g
unfolding greatest_below
greatest_same zero f g h = refl
greatest_same (suc k) f g h = let a = h k (omega arith) in let b = greatest_same k f g (λ i l. h i (omega arith)) in omega arith

pub greatest_zero : (k : ℕ) (f : ℕ → ℕ) → ((i : ℕ) → i < k → f i ≡ 0) → greatest_below k f ≡ 0
unfolding greatest_below
greatest_zero zero f h = refl
greatest_zero (suc k) f h = let a = h k (omega arith) in let b = greatest_zero k f (λ i l. h i (omega arith)) in omega arith

-- two that differ at one place, where the second has nothing
pub greatest_one : (k v : ℕ) (f g : ℕ → ℕ) (x : ℕ) → v < k → f v ≡ x → g v ≡ 0 → ((i : ℕ) → i < k → i ≢ v → f i ≡ g i) → greatest_below k f ≡ max x (greatest_below k g)
unfolding greatest_below
greatest_one zero v f g x l a b h = absurd (omega arith)
greatest_one (suc k) v f g x l a b h = at (ℕ_discrete v k) (λ m. greatest_one k v f g x m a b (λ i b. h i (omega arith)))
  where
    at : Dec (v ≡ k) → (v < k → greatest_below k f ≡ max x (greatest_below k g)) → max (f k) (greatest_below k f) ≡ max x (max (g k) (greatest_below k g))
    at (yes z) rec =
        let e : f k ≡ x = subst (λ (y : ℕ). f y ≡ x) z a in
        let o : g k ≡ 0 = subst (λ (y : ℕ). g y ≡ 0) z b in
        let s = greatest_same k f g (λ i m. h i (omega arith) (λ q. omega arith)) in
        omega arith
    at (no z) rec = let r = rec (omega arith) in let e = h k (omega arith) (λ q. z (sym q)) in omega arith
