-- Parts of lists by take and drop, and lists of one element repeated. Assumes nothing.
use mathlib.Core.Path.{◌≡◌, refl, sym, ap, ◌∙◌}
use mathlib.Core.Bool.{Bool, true}
use mathlib.Core.List.{List, [], ◌∷◌}
use Prim.Native.Nat.{ℕ, zero, suc, ◌+◌, ◌-◌, ◌≤◌}
use native.Mathlib.Omega.{arith}
use lib.Dec.{eqb}
use lib.ListN.{length, get_or, take, drop, replicate, length-drop}
use lib.Seq.{drop-drop, length-take-le, get_or-drop, ext_get_or}
use borrow.Author.Tests.{eqb-true}
use Rattle.base.specs.Lists.{all_of}
use Rattle.base.proofs.BoolLaws.{and_both}
use Rattle.base.proofs.AllOfLaws.{all_of_first, all_of_rest}

module _ {A : Type 0} where
  -- lists that agree from one place on agree from a later one on
  pub drop_later : (m n : ℕ) (xs ys : List A) → m ≤ n → drop m xs ≡ drop m ys → drop n xs ≡ drop n ys
  drop_later m n xs ys h e =
      let s : m + (n - m) ≡ n = omega arith in
      rw (← s) (sym (drop-drop (n - m) m xs) ∙ ap (λ (l : List A). drop (n - m) l) e ∙ drop-drop (n - m) m ys)

  -- a part that ends within a list is as long as was asked
  pub length_part : (a k : ℕ) (xs : List A) → a + k ≤ length xs → length (take k (drop a xs)) ≡ k
  length_part a k xs h = length-take-le k (drop a xs) (rw (length-drop a xs) (omega arith))

  -- ONE ELEMENT REPEATED
  pub all_of_replicate : (q : A → Bool) (k : ℕ) (x : A) → q x ≡ true → all_of q (replicate k x) ≡ true
  unfolding all_of
  all_of_replicate q zero x h = refl
  all_of_replicate q (suc k) x h = and_both (q x) (all_of q (replicate k x)) h (all_of_replicate q k x h)

-- numbers that are all zero
pub zeros_are : (xs : List ℕ) → all_of (λ x. eqb x 0) xs ≡ true → xs ≡ replicate (length xs) 0
zeros_are [] e = refl
zeros_are (x ∷ xs) e =
    rw (eqb-true x 0 (all_of_first (λ y. eqb y 0) x xs e)) (ap (λ (l : List ℕ). 0 ∷ l) (zeros_are xs (all_of_rest (λ y. eqb y 0) x xs e)))

-- lists that agree at every place from one on
pub drop_same : (d : ℕ) (l m : List ℕ) → length l ≡ length m → ((i : ℕ) → d ≤ i → get_or l i 0 ≡ get_or m i 0) → drop d l ≡ drop d m
drop_same d l m e h =
    ext_get_or 0 (drop d l) (drop d m) (simp length-drop (ap (λ (x : ℕ). x - d) e))
    (λ i lt. get_or-drop d l i 0 ∙ h (d + i) (omega arith) ∙ sym (get_or-drop d m i 0))

-- parts of a number repeated
pub drop_replicate : (k m x : ℕ) → drop k (replicate m x) ≡ replicate (m - k) x
drop_replicate zero m x = let e : m ≡ m - 0 = omega arith in ap (λ (j : ℕ). replicate j x) e
drop_replicate (suc k) zero x = let e : 0 ≡ 0 - suc k = omega arith in ap (λ (j : ℕ). replicate j x) e
drop_replicate (suc k) (suc m) x = let e : m - k ≡ suc m - suc k = omega arith in drop_replicate k m x ∙ ap (λ (j : ℕ). replicate j x) e

pub take_replicate : (k m x : ℕ) → k ≤ m → take k (replicate m x) ≡ replicate k x
take_replicate zero m x h = refl
take_replicate (suc k) zero x h = absurd (omega arith)
take_replicate (suc k) (suc m) x h = ap (λ (l : List ℕ). x ∷ l) (take_replicate k m x (omega arith))
