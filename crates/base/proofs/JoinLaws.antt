-- Lists joined one after the other: one more, that only the lists matter, and how long they are. Assumes nothing.
use mathlib.Core.Path.{◌≡◌, refl}
use mathlib.Core.List.{List, ◌++◌}
use Prim.Native.Nat.{ℕ, zero, suc, ◌+◌, ◌<◌}
use native.Mathlib.Omega.{arith}
use native.Mathlib.Numerals.{add-one}
use lib.ListN.{length, length-append}
use Rattle.base.specs.Bounded.{sum_below}
use Rattle.base.specs.Lists.{join_below}

module _ {A : Type 0} where
  pub join_more : (g : ℕ → List A) (k : ℕ) → join_below (k + 1) g ≡ join_below k g ++ g k
  unfolding join_below
  join_more g k = rw add-one

  pub join_same : (n : ℕ) (f g : ℕ → List A) → ((k : ℕ) → k < n → f k ≡ g k) → join_below n f ≡ join_below n g
  unfolding join_below
  join_same zero f g h = refl
  join_same (suc n) f g h = rw (join_same n f g (λ k l. h k (omega arith)), h n (omega arith))

  pub join_length : (g : ℕ → List A) (n : ℕ) → length (join_below n g) ≡ sum_below n (λ k. length (g k))
  unfolding join_below sum_below
  join_length g zero = refl
  join_length g (suc n) = let e = length-append (join_below n g) (g n) in let r = join_length g n in omega arith
