-- Cycles. A prefix has no parent for the vertices from v on, so that a path in it ends there, and is a path in every
-- list that goes on from it; and no path of an arborescence comes back to where it began: an arc that closes a cycle
-- begins no arborescence. Assumes nothing.
use mathlib.Core.Path.{◌≡◌, subst}
use mathlib.Core.Bool.{true, false}
use mathlib.Core.List.{List, ◌∷◌, ◌++◌}
use mathlib.Core.Logic.{◌⊎◌, inl, inr, ⊎_elim}
use Prim.Native.Nat.{ℕ, zero, suc, ◌≤◌, ◌<◌}
use native.Mathlib.Omega.{arith}
use lib.Dec.{ltb, eqb}
use lib.ListN.{length, get_or-append, get_or-eq_default}
use lib.Seq.{get_or_at}
use borrow.Author.Tests.{eqb-false, ltb-true, ltb-false}
use Rattle.base.proofs.BoolLaws.{test, not_both, is_false, or_cases, or_left, or_right}
use Rattle.instance.specs.Limits.{max_vertices, no_parent}
use Rattle.instance.specs.Instance.{Instance}
use Rattle.instance.specs.Arborescence.{remaining, parent, reaches, is_arborescence}
use Rattle.instance.proofs.ArborescenceLaws.{joined}
use Rattle.paths.proofs.PathLaws.{none_avoids, no_return}
use Rattle.paths.proofs.ExchangeLaws.{rooted}

pub below_or_from : (u v : ℕ) → (u < v) ⊎ (v ≤ u)
below_or_from u v =
    ⊎_elim (λ (b : ltb u v ≡ true). inl (ltb-true u v b)) (λ (b : ltb u v ≡ false). inr (ltb-false u v b)) (test (ltb u v))

-- PATHS IN A PREFIX
module _ (ps : List ℕ) (v : ℕ) (size : length ps ≡ v) where
  pub from_bare : (u : ℕ) → v ≤ u → parent ps u ≡ no_parent
  from_bare u l = get_or-eq_default ps no_parent {n = u} (omega arith)

  pub parent_kept : (l : List ℕ) (u : ℕ) → u < v → parent (ps ++ l) u ≡ parent ps u
  parent_kept l u b = get_or-append ps l no_parent u (omega arith)

  pub parent_next : (t : ℕ) (l : List ℕ) → parent (ps ++ (t ∷ l)) v ≡ t
  parent_next t l = get_or_at ps t l no_parent v size

  pub path_kept : v ≤ max_vertices → (l : List ℕ) (w : ℕ) → w < no_parent → (k u : ℕ) → reaches k w ps u ≡ true → reaches k w (ps ++ l) u ≡ true
  unfolding reaches
  path_kept small l w b zero u e = e
  path_kept small l w b (suc k) u e =
      ⊎_elim (λ (q : eqb u w ≡ true). or_left (eqb u w) (reaches k w (ps ++ l) (parent (ps ++ l) u)) q)
      (λ (q : reaches k w ps (parent ps u) ≡ true).
      or_right (eqb u w) (reaches k w (ps ++ l) (parent (ps ++ l) u)) (at q (path_kept small l w b k (parent ps u) q) (below_or_from u v)))
      (or_cases (eqb u w) (reaches k w ps (parent ps u)) e)
    where
      at : reaches k w ps (parent ps u) ≡ true → reaches k w (ps ++ l) (parent ps u) ≡ true → (u < v) ⊎ (v ≤ u) → reaches k w (ps ++ l) (parent (ps ++ l) u) ≡ true
      at q h (inl i) = rw (parent_kept l u i) h
      at q h (inr i) =
          absurd
          (not_both (reaches k w ps no_parent) (subst (λ (x : ℕ). reaches k w ps x ≡ true) (from_bare u i) q)
          (none_avoids ps w (omega arith) b k))

-- WHAT BEGINS NO ARBORESCENCE
module _ (s : Instance) (ps : List ℕ) (v : ℕ) (size : length ps ≡ v) (below : v < s.n) (apart : eqb v s.root ≡ false) (t : ℕ) (l : List ℕ) where
  -- an arc that does not remain
  pub lost_none : remaining s t v ≡ false → is_arborescence s (ps ++ (t ∷ l)) ≡ false
  lost_none r =
      is_false (is_arborescence s (ps ++ (t ∷ l)))
      (λ a. not_both (remaining s t v) (rw (parent_next ps v size t l) at (joined s (ps ++ (t ∷ l)) a v below apart).arc) r)

  -- an arc that closes a cycle
  pub cycle_none : s.root < s.n → s.n ≤ max_vertices → reaches s.n v ps t ≡ true → is_arborescence s (ps ++ (t ∷ l)) ≡ false
  cycle_none root_below small c =
      is_false (is_arborescence s (ps ++ (t ∷ l)))
      (λ a.
      no_return s.n s.root (ps ++ (t ∷ l)) (rooted s (ps ++ (t ∷ l)) root_below a) small v below (eqb-false v s.root apart)
      (s.n, rw (parent_next ps v size t l) (path_kept ps v size (omega arith) (t ∷ l) v (omega arith) s.n t c)))
