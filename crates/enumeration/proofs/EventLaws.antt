-- The trees and the tries among some events, over events joined one after the other; and that every list that the walk
-- lists is as long as it must be. Assumes nothing.
use mathlib.Core.Path.{◌≡◌, refl, sym, ap, ◌∙◌}
use mathlib.Core.Bool.{Bool, true, false, cond}
use mathlib.Core.List.{List, [], ◌∷◌, ◌++◌}
use Prim.Native.Nat.{ℕ, zero, suc, ◌+◌}
use native.Mathlib.Omega.{arith}
use native.Mathlib.Nat.{zero-add}
use lib.Dec.{leb, eqb}
use lib.ListN.{length}
use Rattle.base.specs.Bounded.{sum_below}
use Rattle.base.specs.Lists.{join_below}
use Rattle.instance.specs.Limits.{no_parent}
use Rattle.instance.specs.Instance.{Instance}
use Rattle.instance.specs.Arborescence.{remaining, reaches, total}
use Rattle.enumeration.specs.Events.{Event, tried, listed, events_from, tail_events}
use Rattle.enumeration.proofs.PrefixLaws.{one_more}

unfoldable pub trees_in : List Event → List (List ℕ)
trees_in [] = []
trees_in (tried ∷ es) = trees_in es
trees_in (listed ps ∷ es) = ps ∷ trees_in es

unfoldable pub tries_in : List Event → ℕ
tries_in [] = 0
tries_in (tried ∷ es) = suc (tries_in es)
tries_in (listed ps ∷ es) = tries_in es

trees_append : (es fs : List Event) → trees_in (es ++ fs) ≡ trees_in es ++ trees_in fs
unfolding trees_in
trees_append [] fs = refl
trees_append (tried ∷ es) fs = trees_append es fs
trees_append (listed ps ∷ es) fs = ap (λ (l : List (List ℕ)). ps ∷ l) (trees_append es fs)

pub trees_join : (n : ℕ) (g : ℕ → List Event) → trees_in (join_below n g) ≡ join_below n (λ t. trees_in (g t))
unfolding join_below trees_in
trees_join zero g = refl
trees_join (suc n) g = trees_append (join_below n g) (g n) ∙ ap (λ (l : List (List ℕ)). l ++ trees_in (g n)) (trees_join n g)

tries_append : (es fs : List Event) → tries_in (es ++ fs) ≡ tries_in es + tries_in fs
unfolding tries_in
tries_append [] fs = sym (zero-add (tries_in fs))
tries_append (tried ∷ es) fs = let h = tries_append es fs in omega arith
tries_append (listed ps ∷ es) fs = tries_append es fs

pub tries_join : (n : ℕ) (g : ℕ → List Event) → tries_in (join_below n g) ≡ sum_below n (λ t. tries_in (g t))
unfolding join_below tries_in sum_below
tries_join zero g = refl
tries_join (suc n) g = let h = tries_append (join_below n g) (g n) in let r = tries_join n g in omega arith

-- EVERY LIST IS SO LONG
pub data Sized (n : ℕ) : List Event → Type 0 where
  none : Sized n []
  a_try : {es : List Event} → Sized n es → Sized n (tried ∷ es)
  a_tree : {ps : List ℕ} {es : List Event} → length ps ≡ n → Sized n es → Sized n (listed ps ∷ es)

module _ (n : ℕ) where
  sized_append : {es fs : List Event} → Sized n es → Sized n fs → Sized n (es ++ fs)
  sized_append none b = b
  sized_append (a_try a) b = a_try (sized_append a b)
  sized_append (a_tree e a) b = a_tree e (sized_append a b)

  sized_join : (g : ℕ → List Event) (k : ℕ) → ((t : ℕ) → Sized n (g t)) → Sized n (join_below k g)
  unfolding join_below
  sized_join g zero h = none
  sized_join g (suc k) h = sized_append (sized_join g k h) (h k)

  sized_leaf : (ps : List ℕ) (b : Bool) → length ps ≡ n → Sized n (cond b (listed ps ∷ []) [])
  sized_leaf ps true e = a_tree e none
  sized_leaf ps false e = none

  pub sized_events_from : (k v : ℕ) (s : Instance) (ps : List ℕ) → length ps + k ≡ n → Sized n (events_from k v s ps)
  unfolding events_from
  sized_events_from zero v s ps e = sized_leaf ps (leb (total s ps) s.budget) (omega arith)
  sized_events_from (suc k) v s ps e =
      at (eqb v s.root) (λ p. sized_events_from k (suc v) s (ps ++ (p ∷ [])) (let z = one_more ps (length ps) p refl in omega arith))
    where
      tail : ((p : ℕ) → Sized n (events_from k (suc v) s (ps ++ (p ∷ [])))) → (t : ℕ) (r c : Bool)
          → Sized n (cond r (tried ∷ cond c [] (events_from k (suc v) s (ps ++ (t ∷ [])))) [])
      tail h t false c = none
      tail h t true true = a_try none
      tail h t true false = a_try (h t)

      at : (b : Bool) → ((p : ℕ) → Sized n (events_from k (suc v) s (ps ++ (p ∷ []))))
          → Sized n (cond b (events_from k (suc v) s (ps ++ (no_parent ∷ []))) (join_below s.n (tail_events k v s ps)))
      at true h = h no_parent
      at false h = sized_join (tail_events k v s ps) s.n (λ t. tail h t (remaining s t v) (reaches s.n v ps t))
