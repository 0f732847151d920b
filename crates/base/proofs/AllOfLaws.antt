-- A test of every element of a list: of a list put together or cut, by another test, by index. Assumes nothing.
use mathlib.Core.Path.{◌≡◌, refl}
use mathlib.Core.Bool.{Bool, true}
use mathlib.Core.List.{List, [], ◌∷◌, ◌++◌}
use Prim.Native.Nat.{ℕ, zero, suc}
use lib.ListN.{get_or, take, drop}
use Rattle.base.specs.Lists.{all_of, tabulate, tabulate_from}
use Rattle.base.proofs.BoolLaws.{and_left, and_right, and_both}

module _ {A : Type 0} (q : A → Bool) where
  pub all_of_append : (xs ys : List A) → all_of q xs ≡ true → all_of q ys ≡ true → all_of q (xs ++ ys) ≡ true
  unfolding all_of
  all_of_append [] ys p r = r
  all_of_append (x ∷ xs) ys p r =
      and_both (q x) (all_of q (xs ++ ys)) (and_left (q x) (all_of q xs) p) (all_of_append xs ys (and_right (q x) (all_of q xs) p) r)

  pub all_of_take : (k : ℕ) (xs : List A) → all_of q xs ≡ true → all_of q (take k xs) ≡ true
  unfolding all_of
  all_of_take zero xs p = refl
  all_of_take (suc k) [] p = refl
  all_of_take (suc k) (x ∷ xs) p =
      and_both (q x) (all_of q (take k xs)) (and_left (q x) (all_of q xs) p) (all_of_take k xs (and_right (q x) (all_of q xs) p))

  pub all_of_drop : (k : ℕ) (xs : List A) → all_of q xs ≡ true → all_of q (drop k xs) ≡ true
  unfolding all_of
  all_of_drop zero xs p = p
  all_of_drop (suc k) [] p = refl
  all_of_drop (suc k) (x ∷ xs) p = all_of_drop k xs (and_right (q x) (all_of q xs) p)

  -- every element passes, by index
  pub all_of_intro : (d : A) (xs : List A) → ((i : ℕ) → q (get_or xs i d) ≡ true) → all_of q xs ≡ true
  unfolding all_of
  all_of_intro d [] h = refl
  all_of_intro d (x ∷ xs) h = and_both (q x) (all_of q xs) (h 0) (all_of_intro d xs (λ i. h (suc i)))

module _ {A : Type 0} where
  pub all_of_eq : (p q : A → Bool) → ((x : A) → p x ≡ q x) → (xs : List A) → all_of p xs ≡ all_of q xs
  unfolding all_of
  all_of_eq p q h [] = refl
  all_of_eq p q h (x ∷ xs) = rw (h x, all_of_eq p q h xs)

  pub all_of_first : (q : A → Bool) (x : A) (xs : List A) → all_of q (x ∷ xs) ≡ true → q x ≡ true
  unfolding all_of
  all_of_first q x xs e = and_left (q x) (all_of q xs) e

  pub all_of_rest : (q : A → Bool) (x : A) (xs : List A) → all_of q (x ∷ xs) ≡ true → all_of q xs ≡ true
  unfolding all_of
  all_of_rest q x xs e = and_right (q x) (all_of q xs) e

  pub all_of_more : (q : A → Bool) (x : A) (xs : List A) → q x ≡ true → all_of q xs ≡ true → all_of q (x ∷ xs) ≡ true
  unfolding all_of
  all_of_more q x xs h e = rw (h, e)

-- of a list made by index
all_of_tabulate_from : (q : ℕ → Bool) (k a : ℕ) (g : ℕ → ℕ) → ((i : ℕ) → q (g i) ≡ true) → all_of q (tabulate_from k a g) ≡ true
unfolding tabulate_from all_of
all_of_tabulate_from q zero a g h = refl
all_of_tabulate_from q (suc k) a g h = and_both (q (g a)) (all_of q (tabulate_from k (suc a) g)) (h a) (all_of_tabulate_from q k (suc a) g h)

pub all_of_tabulate : (q : ℕ → Bool) (k : ℕ) (g : ℕ → ℕ) → ((i : ℕ) → q (g i) ≡ true) → all_of q (tabulate k g) ≡ true
unfolding tabulate
all_of_tabulate q k g h = all_of_tabulate_from q k 0 g h
