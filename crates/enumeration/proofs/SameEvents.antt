-- Instances with the same remaining arcs at the same weights, and the same budget, have the same events; so the walk on
-- the matrix of what remains is the walk on the instance itself. Assumes nothing.
use mathlib.Core.Path.{◌≡◌, refl, ap, ◌∙◌, subst}
use mathlib.Core.Bool.{Bool, true, false, cond}
use mathlib.Core.List.{List, [], ◌∷◌, ◌++◌}
use Prim.Native.Nat.{ℕ, zero, suc, ◌+◌, ◌≤◌, ◌<◌}
use native.Mathlib.Omega.{arith}
use native.Mathlib.Nat.{zero-add}
use lib.Dec.{leb, eqb}
use Rattle.base.specs.Lists.{join_below}
use Rattle.base.proofs.JoinLaws.{join_same}
use Rattle.instance.specs.Limits.{max_vertices, no_parent}
use Rattle.instance.specs.Instance.{Instance}
use Rattle.instance.specs.Arborescence.{remaining, reaches, total}
use Rattle.instance.specs.Matrix.{matrix, matrix_instance, unmarked}
use Rattle.theory.proofs.SameArcs.{SameArcs, same_total}
use Rattle.theory.proofs.Restriction.{matrix_same}
use Rattle.theory.proofs.MatrixInstances.{same_on, matrix_instance_same}
use Rattle.enumeration.specs.Events.{Event, tried, listed, events_from, tail_events, events}
use Rattle.enumeration.proofs.PrefixLaws.{Prefix, prefix_none, prefix_root, prefix_more, prefix_whole}

module _ (a b : Instance) (e : SameArcs a b) (budgets : a.budget ≡ b.budget) (root_below : a.root < a.n) (small : a.n ≤ max_vertices) where
  leaf_same : (v : ℕ) (ps : List ℕ) → v ≡ a.n → Prefix a v ps → events_from 0 v a ps ≡ events_from 0 v b ps
  unfolding events_from
  leaf_same v ps q c =
      let t = same_total a b e ps (prefix_whole a root_below small ps (subst (λ (x : ℕ). Prefix a x ps) q c)) in
      ap (λ (x : ℕ). cond (leb x a.budget) (listed ps ∷ []) []) t ∙ ap (λ (x : ℕ). cond (leb (total b ps) x) (listed ps ∷ []) []) budgets

  module _ (v : ℕ) (ps : List ℕ) (c : Prefix a v ps) (below : v < a.n) (k : ℕ)
      (ih : (qs : List ℕ) → Prefix a (suc v) qs → events_from k (suc v) a qs ≡ events_from k (suc v) b qs) where
    tail_same : eqb v a.root ≡ false → (t : ℕ) → tail_events k v a ps t ≡ tail_events k v b ps t
    tail_same x t =
        at (remaining a t v) (reaches a.n v ps t) refl refl
        ∙ ap (λ (r : Bool). cond r (tried ∷ cond (reaches a.n v ps t) [] (events_from k (suc v) b (ps ++ (t ∷ [])))) []) (e.arcs t v)
        ∙ ap (λ (m : ℕ). cond (remaining b t v) (tried ∷ cond (reaches m v ps t) [] (events_from k (suc v) b (ps ++ (t ∷ [])))) []) e.vertices
      where
        at : (r d : Bool) → remaining a t v ≡ r → reaches a.n v ps t ≡ d
            → cond r (tried ∷ cond d [] (events_from k (suc v) a (ps ++ (t ∷ [])))) [] ≡ cond r (tried ∷ cond d [] (events_from k (suc v) b (ps ++ (t ∷ [])))) []
        at false d y z = refl
        at true true y z = refl
        at true false y z = ap (λ (l : List Event). tried ∷ l) (ih (ps ++ (t ∷ [])) (prefix_more a root_below small v ps c below t x y z))

    next_same : events_from (suc k) v a ps ≡ events_from (suc k) v b ps
    unfolding events_from
    next_same =
        at (eqb v a.root) refl
        ∙ ap (λ (r : ℕ). cond (eqb v r) (events_from k (suc v) b (ps ++ (no_parent ∷ []))) (join_below b.n (tail_events k v b ps))) e.roots
      where
        at : (r : Bool) → eqb v a.root ≡ r
            → cond r (events_from k (suc v) a (ps ++ (no_parent ∷ []))) (join_below a.n (tail_events k v a ps))
            ≡ cond r (events_from k (suc v) b (ps ++ (no_parent ∷ []))) (join_below b.n (tail_events k v b ps))
        at true x = ih (ps ++ (no_parent ∷ [])) (prefix_root a root_below small v ps c below x)
        at false x =
            join_same a.n (tail_events k v a ps) (tail_events k v b ps) (λ t l. tail_same x t)
            ∙ ap (λ (m : ℕ). join_below m (tail_events k v b ps)) e.vertices

  same_from : (k v : ℕ) (ps : List ℕ) → v + k ≡ a.n → Prefix a v ps → events_from k v a ps ≡ events_from k v b ps
  same_from zero v ps q c = leaf_same v ps (omega arith) c
  same_from (suc k) v ps q c = next_same v ps c (omega arith) k (λ qs d. same_from k (suc v) qs (omega arith) d)

pub same_events : (a b : Instance) → SameArcs a b → a.budget ≡ b.budget → a.root < a.n → a.n ≤ max_vertices → events a ≡ events b
unfolding events
same_events a b e budgets root_below small =
    same_from a b e budgets root_below small a.n 0 [] (zero-add a.n) (prefix_none a root_below small)
    ∙ ap (λ (m : ℕ). events_from m 0 b []) e.vertices

-- THE MATRIX at the budget of the instance
pub matrix_events : (s : Instance) → s.root < s.n → s.n ≤ max_vertices → events (matrix_instance s.n s.root s.budget (matrix s)) ≡ events s
matrix_events s root_below small =
    let left = matrix_instance s.n s.root s.budget (matrix s) in
    same_events left s
    (same_on left (unmarked s.n s.root (matrix s)) s (matrix_instance_same s.n s.root s.budget (matrix s)) (matrix_same s small)) refl
    root_below small
