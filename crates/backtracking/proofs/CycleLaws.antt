-- The path from a tail, as far as the vertices below v have parents: one step, and its end. Assumes nothing.
use mathlib.Core.Path.{◌≡◌, refl, sym, ◌∙◌}
use mathlib.Core.Bool.{true, false}
use mathlib.Core.List.{List}
use mathlib.Core.Logic.{⊎_elim}
use Prim.Native.Nat.{ℕ, zero, suc, ◌-◌, ◌≤◌, ◌<◌}
use native.Mathlib.Omega.{arith}
use native.Mathlib.Nat.{eq-or-lt_of_le}
use lib.Dec.{eqb}
use lib.ListN.{length, get_or, take, get_or-eq_default}
use lib.Seq.{get_or-take, length-take-le}
use borrow.Author.Tests.{eq-eqb, ne_eqb}
use Rattle.base.proofs.ListLaws.{default}
use Rattle.instance.specs.Limits.{max_vertices, no_parent}
use Rattle.instance.specs.Arborescence.{parent, reaches}

module _ (v : ℕ) (ps : List ℕ) (size : length ps ≡ v) (small : v < max_vertices) where
  -- a vertex from v on has no parent, so its path is over
  lost : (k at : ℕ) → v < at → reaches k v ps at ≡ false
  unfolding reaches
  lost zero at l = ne_eqb at v (λ e. omega arith)
  lost (suc k) at l = rw (ne_eqb at v (λ e. omega arith), get_or-eq_default ps no_parent {n = at} (omega arith)) (lost k no_parent (omega arith))

  here : (k at : ℕ) → at ≡ v → reaches k v ps at ≡ true
  unfolding reaches
  here zero at e = eq-eqb at v e
  here (suc k) at e = rw (eq-eqb at v e)

  pub path_over : (k at : ℕ) → v ≤ at → reaches k v ps at ≡ eqb at v
  path_over k at l =
      ⊎_elim (λ (e : v ≡ at). here k at (sym e) ∙ sym (eq-eqb at v (sym e))) (λ (e : v < at). lost k at e ∙ sym (ne_eqb at v (λ q. omega arith))) (eq-or-lt_of_le l)

  pub path_up : (k at : ℕ) → 0 < k → at < v → reaches k v ps at ≡ reaches (k - 1) v ps (parent ps at)
  unfolding reaches
  path_up zero at h l = absurd (omega arith)
  path_up (suc k) at h l = let d : suc k - 1 ≡ k = omega arith in rw (ne_eqb at v (λ e. omega arith), d)

pub path_last : (k v at : ℕ) (ps : List ℕ) → k ≤ 0 → reaches k v ps at ≡ eqb at v
unfolding reaches
path_last zero v at ps h = refl
path_last (suc k) v at ps h = absurd (omega arith)

-- the vertices below v, in an array of 32
module _ (v : ℕ) (ps : List ℕ) (places : length ps ≡ max_vertices) (small : v < max_vertices) where
  pub prefix_length : length (take v ps) ≡ v
  prefix_length = length-take-le v ps (omega arith)

  pub prefix_parent : (u : ℕ) → u < v → parent (take v ps) u ≡ get_or ps u 0
  prefix_parent u l = get_or-take v ps u no_parent l ∙ default ps u no_parent 0 (omega arith)
