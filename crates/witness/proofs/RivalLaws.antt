-- The smallest rival: number by number; that it is one, and that there is none below it. Assumes nothing.
use mathlib.Core.Path.{◌≡◌, refl, sym, ◌∙◌, subst}
use mathlib.Core.Bool.{Bool, true, false, ◌&&◌, not, cond}
use mathlib.Core.Logic.{⊎_elim}
use Prim.Native.Nat.{ℕ, zero, suc, ◌+◌, ◌-◌, ◌≤◌, ◌<◌}
use native.Mathlib.Omega.{arith}
use lib.Dec.{ltb, eqb}
use borrow.Author.Tests.{ltb-true, ltb-false, eqb-true, eqb-false}
use Rattle.base.specs.Bounded.{any_below}
use Rattle.base.proofs.BoolLaws.{test, not_both, is_true, same_test}
use Rattle.base.proofs.BoundedLaws.{any_intro, any_found}
use Rattle.instance.specs.Instance.{Instance}
use Rattle.instance.specs.Arborescence.{is_pinned, other_pinned}
use Rattle.witness.specs.Witness.{least_from, is_rival, rival}

-- NUMBER BY NUMBER
module _ (P : ℕ → Bool) (n : ℕ) where
  least_step : (k : ℕ) → k < n → least_from (n - k) k P ≡ cond (P k) k (least_from (n - (k + 1)) (k + 1) P)
  unfolding least_from
  least_step k l =
      let c : n - k ≡ suc (n - (k + 1)) = omega arith in
      let e : k + 1 ≡ suc k = omega arith in
      rw (c, e)

  pub least_here : (k : ℕ) → k < n → P k ≡ true → least_from (n - k) k P ≡ k
  least_here k l e = least_step k l ∙ rw e

  pub least_past : (k : ℕ) → k < n → P k ≡ false → least_from (n - k) k P ≡ least_from (n - (k + 1)) (k + 1) P
  least_past k l e = least_step k l ∙ rw e

  pub least_end : (k : ℕ) → k ≡ n → least_from (n - k) k P ≡ n
  unfolding least_from
  least_end k e = let z : n - k ≡ 0 = omega arith in rw z e

-- READ: none below it passes; where some does, it does
pub record Least (P : ℕ → Bool) (a bound k : ℕ) : Type 0 where
  pub from : a ≤ k
  pub most : k ≤ bound
  pub passes : k < bound → P k ≡ true
  pub none_below : (i : ℕ) → a ≤ i → i < k → P i ≡ false

least_reads : (c a : ℕ) (P : ℕ → Bool) → Least P a (c + a) (least_from c a P)
unfolding least_from
least_reads zero a P = record { from = omega arith; most = omega arith; passes = λ l. absurd (omega arith); none_below = λ i l m. absurd (omega arith) }
least_reads (suc c) a P = at (P a) refl (least_reads c (suc a) P)
  where
    at : (b : Bool) → P a ≡ b → Least P (suc a) (c + suc a) (least_from c (suc a) P) → Least P a (suc c + a) (cond b a (least_from c (suc a) P))
    at true e r = record { from = omega arith; most = omega arith; passes = λ _. e; none_below = λ i l m. absurd (omega arith) }
    at false e r =
        let x = r.from in
        let y = r.most in
        record {
          from = omega arith;
          most = omega arith;
          passes = λ l. r.passes (omega arith);
          none_below =
              λ i l m.
              ⊎_elim (λ (z : eqb i a ≡ true). subst (λ (j : ℕ). P j ≡ false) (sym (eqb-true i a z)) e)
              (λ (z : eqb i a ≡ false). let d = eqb-false i a z in r.none_below i (omega arith) m) (test (eqb i a));
        }

-- THE RIVAL
module _ (s : Instance) (t h : ℕ) where
  pub rival_from : rival s t h ≡ least_from (s.n - 0) 0 (is_rival s t h)
  unfolding rival
  rival_from = let e : s.n - 0 ≡ s.n = omega arith in rw e

  abbrev P : ℕ → Bool
  P = λ g. not (eqb g t) && is_pinned s g h

  pub rival_reads : Least (λ g. not (eqb g t) && is_pinned s g h) 0 s.n (rival s t h)
  unfolding rival is_rival
  rival_reads = let e : s.n + 0 ≡ s.n = omega arith in subst (λ (k : ℕ). Least P 0 k (least_from s.n 0 P)) e (least_reads s.n 0 P)

  -- there is one exactly where another arc into the head is pinned
  pub rival_other : other_pinned s t h ≡ ltb (rival s t h) s.n
  unfolding other_pinned
  rival_other =
      same_test (any_below s.n P) (ltb (rival s t h) s.n)
      (λ e.
      let f = any_found s.n P e in
      is_true (ltb (rival s t h) s.n)
      (λ x.
      let most = ltb-false (rival s t h) s.n x in
      let b = f.1 in
      not_both (P f.0) f.2 (rival_reads.none_below f.0 (omega arith) (omega arith))))
      (λ e. let l = ltb-true (rival s t h) s.n e in any_intro s.n P (rival s t h) l (rival_reads.passes l))
