-- The edges of a tree, by its parents. Assumes nothing.
use mathlib.Core.Path.{◌≡◌}
use mathlib.Core.Bool.{true, false}
use mathlib.Core.List.{List}
use mathlib.Core.Logic.{◌⊎◌, inl, inr, ⊎_elim, ◌≢◌}
use Prim.Native.Nat.{ℕ}
use lib.Dec.{eqb}
use borrow.Author.Tests.{eqb-true, eq-eqb}
use Rattle.base.proofs.BoolLaws.{is_false, same_test, or_cases, or_left, or_right}
use Rattle.instance.specs.Arborescence.{parent, uses}
use Rattle.spanning.specs.SpanningTrees.{joins}

module _ (ps : List ℕ) (i j : ℕ) where
  pub joins_cases : joins ps i j ≡ true → (parent ps j ≡ i) ⊎ (parent ps i ≡ j)
  unfolding joins uses
  joins_cases e =
      ⊎_elim (λ (a : eqb (parent ps j) i ≡ true). inl (eqb-true (parent ps j) i a)) (λ (a : eqb (parent ps i) j ≡ true). inr (eqb-true (parent ps i) j a))
      (or_cases (eqb (parent ps j) i) (eqb (parent ps i) j) e)

  pub joins_down : parent ps j ≡ i → joins ps i j ≡ true
  unfolding joins uses
  joins_down e = or_left (eqb (parent ps j) i) (eqb (parent ps i) j) (eq-eqb (parent ps j) i e)

  pub joins_up : parent ps i ≡ j → joins ps i j ≡ true
  unfolding joins uses
  joins_up e = or_right (eqb (parent ps j) i) (eqb (parent ps i) j) (eq-eqb (parent ps i) j e)

  pub joins_not : parent ps j ≢ i → parent ps i ≢ j → joins ps i j ≡ false
  joins_not a b = is_false (joins ps i j) (λ e. ⊎_elim (λ (c : parent ps j ≡ i). a c) (λ (c : parent ps i ≡ j). b c) (joins_cases e))

-- "both ways alike"
pub joins_turned : (ps : List ℕ) (i j : ℕ) → joins ps i j ≡ true → joins ps j i ≡ true
joins_turned ps i j e = ⊎_elim (λ (a : parent ps j ≡ i). joins_up ps j i a) (λ (a : parent ps i ≡ j). joins_down ps j i a) (joins_cases ps i j e)

pub joins_alike : (ps : List ℕ) (i j : ℕ) → joins ps i j ≡ joins ps j i
joins_alike ps i j = same_test (joins ps i j) (joins ps j i) (joins_turned ps i j) (joins_turned ps j i)
