-- What is selected from lists that are mapped and joined, and each number in front of each list as such a join.
-- Assumes nothing.
use mathlib.Core.Path.{◌≡◌, refl, sym, ap, ◌∙◌}
use mathlib.Core.Bool.{Bool, true, false, cond}
use mathlib.Core.List.{List, [], ◌∷◌, ◌++◌, map, map-append, append-nil, append_assoc}
use Prim.Native.Nat.{ℕ, zero, suc, ◌+◌}
use native.Mathlib.Nat.{zero-add}
use Rattle.base.specs.Lists.{tabulate, tabulate_from, join_below, select}
use Rattle.base.proofs.ListLaws.{tabulate_from_more}
use Rattle.instance.specs.Candidates.{prefixed}

-- SELECTION
module _ {A : Type 0} (q : A → Bool) where
  select_append : (xs ys : List A) → select q (xs ++ ys) ≡ select q xs ++ select q ys
  unfolding select
  select_append [] ys = refl
  select_append (x ∷ xs) ys = at (q x) (select_append xs ys)
    where
      at : (b : Bool) → select q (xs ++ ys) ≡ select q xs ++ select q ys
          → cond b (x ∷ select q (xs ++ ys)) (select q (xs ++ ys)) ≡ cond b (x ∷ select q xs) (select q xs) ++ select q ys
      at true e = ap (λ (l : List A). x ∷ l) e
      at false e = e

module _ {A B : Type 0} (q : B → Bool) (f : A → B) where
  -- nothing passes
  pub select_none : ((x : A) → q (f x) ≡ false) → (xs : List A) → select q (map f xs) ≡ []
  unfolding select
  select_none h [] = refl
  select_none h (x ∷ xs) = rw (h x) (select_none h xs)

  pub select_map_join : (n : ℕ) (g : ℕ → List A) → select q (map f (join_below n g)) ≡ join_below n (λ t. select q (map f (g t)))
  unfolding join_below select
  select_map_join zero g = refl
  select_map_join (suc n) g =
      ap (select q) (map-append f (join_below n g) (g n)) ∙ select_append q (map f (join_below n g)) (map f (g n))
      ∙ ap (λ (l : List B). l ++ select q (map f (g n))) (select_map_join n g)

-- EACH NUMBER IN FRONT
prefixed_append : (xs ys : List ℕ) (ls : List (List ℕ)) → prefixed (xs ++ ys) ls ≡ prefixed xs ls ++ prefixed ys ls
unfolding prefixed
prefixed_append [] ys ls = refl
prefixed_append (x ∷ xs) ys ls =
    ap (λ (l : List (List ℕ)). map (λ k. x ∷ k) ls ++ l) (prefixed_append xs ys ls)
    ∙ sym (append_assoc (map (λ k. x ∷ k) ls) (prefixed xs ls) (prefixed ys ls))

pub prefixed_join : (n : ℕ) (ls : List (List ℕ)) → prefixed (tabulate n (λ t. t)) ls ≡ join_below n (λ t. map (λ l. t ∷ l) ls)
unfolding tabulate tabulate_from prefixed join_below
prefixed_join zero ls = refl
prefixed_join (suc n) ls =
    ap (λ (xs : List ℕ). prefixed xs ls) (tabulate_from_more n 0 (λ t. t))
    ∙ prefixed_append (tabulate_from n 0 (λ t. t)) ((0 + n) ∷ []) ls
    ∙ ap (λ (l : List (List ℕ)). l ++ (map (λ k. (0 + n) ∷ k) ls ++ [])) (prefixed_join n ls)
    ∙ ap (λ (l : List (List ℕ)). join_below n (λ t. map (λ k. t ∷ k) ls) ++ l) (append-nil (map (λ k. (0 + n) ∷ k) ls))
    ∙ ap (λ (m : ℕ). join_below n (λ t. map (λ k. t ∷ k) ls) ++ map (λ k. m ∷ k) ls) (zero-add n)
