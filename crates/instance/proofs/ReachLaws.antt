-- Enough steps: a vertex that meets the root after some number of steps to its parent meets it after n. The number of
-- vertices that meet it within k steps grows with k until nothing is added. A parent may also be one from which the
-- root is never met, such as 255. Assumes nothing.
use mathlib.Core.Path.{◌≡◌, refl}
use mathlib.Core.Bool.{Bool, true, false, ◌&&◌, not}
use mathlib.Core.List.{List}
use mathlib.Core.Logic.{◌⊎◌, inl, inr, ⊎_elim}
use Prim.Native.Nat.{ℕ, zero, suc, ◌+◌, ◌≤◌, ◌<◌}
use native.Mathlib.Omega.{arith}
use lib.Dec.{eqb}
use borrow.Author.Tests.{eq-eqb, not-true}
use Rattle.base.specs.Bounded.{any_below, count_below}
use Rattle.base.proofs.BoolLaws.{test, not_both, and_left, and_right, and_both}
use Rattle.base.proofs.BoundedLaws.{any_found, any_intro}
use Rattle.base.proofs.CountingLaws.{count_le, count_more, count_one}
use Rattle.instance.specs.Arborescence.{parent, reaches}

module _ (n root : ℕ) (ps : List ℕ) (root_below : root < n)
    (below : (v : ℕ) → v < n → eqb v root ≡ false → (parent ps v < n) ⊎ ((k : ℕ) → reaches k root ps (parent ps v) ≡ false)) where
  abbrev got : ℕ → ℕ → Bool
  got k v = reaches k root ps v

  longer : (k v : ℕ) → got k v ≡ true → got (suc k) v ≡ true
  unfolding reaches
  longer zero v e = rw e
  longer (suc k) v e =
      ⊎_elim (λ (r : eqb v root ≡ true). rw r) (λ (r : eqb v root ≡ false). rw r (longer k (parent ps v) (rw r at e))) (test (eqb v root))

  Stable : ℕ → Type 0
  Stable k = (v : ℕ) → v < n → got (suc k) v ≡ true → got k v ≡ true

  stays : (k : ℕ) → Stable k → Stable (suc k)
  unfolding reaches Stable
  stays k st v l e =
      ⊎_elim (λ (r : eqb v root ≡ true). rw r)
      (λ (r : eqb v root ≡ false).
      let on : got (suc k) (parent ps v) ≡ true = rw r at e in
      rw r
      (⊎_elim (λ (b : parent ps v < n). st (parent ps v) b on)
      (λ (d : (j : ℕ) → got j (parent ps v) ≡ false). absurd (not_both (got (suc k) (parent ps v)) on (d (suc k)))) (below v l r))) (test (eqb v root))

  -- some vertex is added, or none
  grows : (k : ℕ) → Stable k ⊎ (suc k ≤ count_below n (got k))
  unfolding Stable
  grows zero =
      let e : got 0 root ≡ true = unfold reaches in eq-eqb root root refl in
      let c = count_one n (got 0) root root_below e in
      inr (omega arith)
  grows (suc k) =
      ⊎_elim (λ (st : Stable k). inl (stays k st))
      (λ (c : suc k ≤ count_below n (got k)).
      ⊎_elim
      (λ (a : any_below n (λ v. got (suc k) v && not (got k v)) ≡ true).
      let f = any_found n (λ v. got (suc k) v && not (got k v)) a in
      let v = f.0 in
      let d = count_more n (got k) (got (suc k)) (λ u l. longer k u) v f.1 (not-true (got k v) (and_right (got (suc k) v) (not (got k v)) f.2))
      (and_left (got (suc k) v) (not (got k v)) f.2) in
      inr (omega arith))
      (λ (a : any_below n (λ v. got (suc k) v && not (got k v)) ≡ false).
      inl (stays k (λ v l e.
      ⊎_elim (λ (i : got k v ≡ true). i)
      (λ (o : got k v ≡ false).
      absurd (not_both (any_below n (λ u. got (suc k) u && not (got k u)))
      (any_intro n (λ u. got (suc k) u && not (got k u)) v l (and_both (got (suc k) v) (not (got k v)) e (rw o refl))) a))
      (test (got k v)))))
      (test (any_below n (λ v. got (suc k) v && not (got k v)))))
      (grows k)

  stable : Stable n
  stable = ⊎_elim (λ (st : Stable n). st) (λ (c : suc n ≤ count_below n (got n)). absurd (omega (arith, count_le n (got n)))) (grows n)

  stable_on : (j m : ℕ) → m ≡ j + n → Stable m
  stable_on zero m e = let e' : m ≡ n = omega arith in rw e' stable
  stable_on (suc j) m e = let e' : m ≡ suc (j + n) = omega arith in rw e' (stays (j + n) (stable_on j (j + n) refl))

  climb : (j k m v : ℕ) → m ≡ j + k → got k v ≡ true → got m v ≡ true
  climb zero k m v e g = let e' : m ≡ k = omega arith in rw e' g
  climb (suc j) k m v e g = let e' : m ≡ suc (j + k) = omega arith in rw e' (longer (j + k) v (climb j k (j + k) v refl g))

  descend : (j m v : ℕ) → v < n → m ≡ j + n → got m v ≡ true → got n v ≡ true
  unfolding Stable
  descend zero m v l e g = let e' : m ≡ n = omega arith in rw e' at g
  descend (suc j) m v l e g =
      let e' : m ≡ suc (j + n) = omega arith in
      descend j (j + n) v l refl (stable_on j (j + n) refl v l (rw e' at g))

  pub enough : (k v : ℕ) → v < n → got k v ≡ true → got n v ≡ true
  enough k v l e = descend k (k + n) v l refl (climb n k (k + n) v (omega arith) e)
