-- A list tested element by element: from one of them on, as a loop goes over it, which stops at an element, goes on, or
-- ends; and by index. Assumes nothing.
use mathlib.Core.Path.{◌≡◌, refl, sym}
use mathlib.Core.Bool.{Bool, true, false, ◌||◌, true≢false}
use mathlib.Core.List.{List, [], ◌∷◌}
use Prim.Native.Nat.{ℕ, zero, suc, ◌+◌, ◌≤◌, ◌<◌}
use native.Mathlib.Numerals.{add-one}
use native.Mathlib.Omega.{arith}
use lib.ListN.{length, get_or, drop, drop_of_length-le}
use lib.Seq.{drop-cons}
use Rattle.base.specs.Lists.{any_of, all_of}
use Rattle.base.proofs.BoolLaws.{and_left, and_right, or_left, or_right}

-- FROM ONE ON
module _ {A : Type 0} (q : A → Bool) (d : A) (xs : List A) (i : ℕ) where
  pub any_of_here : i < length xs → q (get_or xs i d) ≡ true → any_of q (drop i xs) ≡ true
  unfolding any_of
  any_of_here h e = rw (drop-cons xs i d h, e)

  pub any_of_next : i < length xs → q (get_or xs i d) ≡ false → any_of q (drop i xs) ≡ any_of q (drop (i + 1) xs)
  unfolding any_of
  any_of_next h e = rw (add-one i, drop-cons xs i d h, e)

  pub any_of_end : length xs ≤ i → any_of q (drop i xs) ≡ false
  unfolding any_of
  any_of_end h = rw (drop_of_length-le xs h)

  pub all_of_here : i < length xs → q (get_or xs i d) ≡ false → all_of q (drop i xs) ≡ false
  unfolding all_of
  all_of_here h e = rw (drop-cons xs i d h, e)

  pub all_of_next : i < length xs → q (get_or xs i d) ≡ true → all_of q (drop i xs) ≡ all_of q (drop (i + 1) xs)
  unfolding all_of
  all_of_next h e = rw (add-one i, drop-cons xs i d h, e)

  pub all_of_end : length xs ≤ i → all_of q (drop i xs) ≡ true
  unfolding all_of
  all_of_end h = rw (drop_of_length-le xs h)

-- BY INDEX
module _ {A : Type 0} (q : A → Bool) (d : A) where
  pub any_of_at : (xs : List A) (i : ℕ) → i < length xs → q (get_or xs i d) ≡ true → any_of q xs ≡ true
  unfolding any_of
  any_of_at [] i h e = absurd (omega arith)
  any_of_at (x ∷ xs) zero h e = or_left (q x) (any_of q xs) e
  any_of_at (x ∷ xs) (suc i) h e = or_right (q x) (any_of q xs) (any_of_at xs i (omega arith) e)

  pub all_of_at : (xs : List A) (i : ℕ) → i < length xs → all_of q xs ≡ true → q (get_or xs i d) ≡ true
  unfolding all_of
  all_of_at [] i h e = absurd (omega arith)
  all_of_at (x ∷ xs) zero h e = and_left (q x) (all_of q xs) e
  all_of_at (x ∷ xs) (suc i) h e = all_of_at xs i (omega arith) (and_right (q x) (all_of q xs) e)

  pub any_of_found : (xs : List A) → any_of q xs ≡ true → (i : ℕ) × (i < length xs) × (q (get_or xs i d) ≡ true)
  unfolding any_of
  any_of_found [] e = absurd (true≢false (sym e))
  any_of_found (x ∷ xs) e = go (q x) refl e (any_of_found xs)
    where
      go : (b : Bool) → q x ≡ b → b || any_of q xs ≡ true → (any_of q xs ≡ true → (i : ℕ) × (i < length xs) × (q (get_or xs i d) ≡ true))
          → (i : ℕ) × (i < suc (length xs)) × (q (get_or (x ∷ xs) i d) ≡ true)
      go true h e r = (0, omega arith, h)
      go false h e r = let f = r e in (suc f.0, omega (arith, f.1), f.2)
