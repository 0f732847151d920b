-- Laws of lists made by index, of defaults, and of tests over lists. Assumes nothing.
use mathlib.Core.Path.{◌≡◌, refl, sym, ap, ◌∙◌, subst}
use mathlib.Core.Bool.{Bool, true, false, ◌&&◌, ◌||◌, not, cond, true≢false}
use mathlib.Core.List.{List, [], ◌∷◌, ◌++◌, map}
use Prim.Native.Nat.{ℕ, zero, suc, ◌+◌, ◌<◌}
use native.Mathlib.Omega.{arith}
use native.Mathlib.Numerals.{add-one}
use native.Mathlib.Nat.{add-zero, add-suc, suc-add, zero-add}
use lib.ListN.{length, get_or, set, take, replicate}
use lib.Seq.{take-suc-set, take_all, ext_get_or}
use Rattle.base.specs.Lists.{tabulate_from, tabulate, select, any_of, all_of}
use Rattle.base.proofs.BoolLaws.{and_left, and_right, and_both, or_left, or_right}

-- inside a list the default does not matter
pub default : {A : Type 0} (l : List A) (i : ℕ) (d e : A) → i < length l → get_or l i d ≡ get_or l i e
default [] i d e h = absurd (omega arith)
default (x ∷ l) zero d e h = refl
default (x ∷ l) (suc i) d e h = default l i d e (omega arith)

-- of a list of defaults every place, past its end too, is the default
pub replicate_at : {A : Type 0} (k i : ℕ) (d : A) → get_or (replicate k d) i d ≡ d
replicate_at zero i d = refl
replicate_at (suc k) zero d = refl
replicate_at (suc k) (suc i) d = replicate_at k i d

-- LISTS MADE BY INDEX
pub length_tabulate_from : (k a : ℕ) (g : ℕ → ℕ) → length (tabulate_from k a g) ≡ k
unfolding tabulate_from
length_tabulate_from zero a g = refl
length_tabulate_from (suc k) a g = ap suc (length_tabulate_from k (suc a) g)

pub length_tabulate : (k : ℕ) (g : ℕ → ℕ) → length (tabulate k g) ≡ k
unfolding tabulate
length_tabulate k g = length_tabulate_from k 0 g

pub getD_tabulate_from : (k a : ℕ) (g : ℕ → ℕ) (i d : ℕ) → i < k → get_or (tabulate_from k a g) i d ≡ g (a + i)
unfolding tabulate_from
getD_tabulate_from zero a g i d h = absurd (omega arith)
getD_tabulate_from (suc k) a g zero d h = ap g (sym (add-zero a))
getD_tabulate_from (suc k) a g (suc i) d h = getD_tabulate_from k (suc a) g i d (omega arith) ∙ ap g (suc-add a i ∙ sym (add-suc a i))

pub get_d_tabulate : (k : ℕ) (g : ℕ → ℕ) (i d : ℕ) → i < k → get_or (tabulate k g) i d ≡ g i
unfolding tabulate
get_d_tabulate k g i d h = getD_tabulate_from k 0 g i d h ∙ ap g (zero-add i)

-- a list is the one made by index if it is as long and agrees
pub tabulate_is : (k : ℕ) (l : List ℕ) (g : ℕ → ℕ) (d : ℕ) → length l ≡ k → ((i : ℕ) → i < k → get_or l i d ≡ g i) → l ≡ tabulate k g
tabulate_is k l g d n h =
    ext_get_or d l (tabulate k g) (n ∙ sym (length_tabulate k g)) (λ i lt. let b : i < k = omega arith in h i b ∙ sym (get_d_tabulate k g i d b))

-- lists made by index that agree are equal
pub tabulate_same : (k : ℕ) (f g : ℕ → ℕ) → ((i : ℕ) → i < k → f i ≡ g i) → tabulate k f ≡ tabulate k g
tabulate_same k f g h = tabulate_is k (tabulate k f) g 0 (length_tabulate k f) (λ i l. get_d_tabulate k f i 0 l ∙ h i l)

pub tabulate_none : (l : List ℕ) (g : ℕ → ℕ) → take 0 l ≡ tabulate 0 g
unfolding tabulate tabulate_from
tabulate_none l g = refl

-- one more at the end
pub tabulate_from_more : (k a : ℕ) (g : ℕ → ℕ) → tabulate_from (suc k) a g ≡ tabulate_from k a g ++ (g (a + k) ∷ [])
unfolding tabulate_from
tabulate_from_more zero a g = ap (λ (i : ℕ). g i ∷ []) (sym (add-zero a))
tabulate_from_more (suc k) a g =
    ap (λ (l : List ℕ). g a ∷ l) (tabulate_from_more k (suc a) g ∙ ap (λ (i : ℕ). tabulate_from k (suc a) g ++ (g i ∷ [])) (suc-add a k ∙ sym (add-suc a k)))

pub tabulate_more : (k : ℕ) (g : ℕ → ℕ) → tabulate (k + 1) g ≡ tabulate k g ++ (g k ∷ [])
unfolding tabulate
tabulate_more k g = rw add-one (tabulate_from_more k 0 g ∙ ap (λ (i : ℕ). tabulate_from k 0 g ++ (g i ∷ [])) (zero-add k))

-- a loop that fills a list: one more store, and the end
pub tabulate_store : (l : List ℕ) (i : ℕ) (g : ℕ → ℕ) (v : ℕ) → i < length l → take i l ≡ tabulate i g → v ≡ g i → take (i + 1) (set l i v) ≡ tabulate (i + 1) g
tabulate_store l i g v h e q = rw (tabulate_more i g) (rw (add-one, take-suc-set l i v h, e, q))

pub tabulate_whole : (l : List ℕ) (k i : ℕ) (g : ℕ → ℕ) → length l ≡ k → i ≡ k → take i l ≡ tabulate i g → l ≡ tabulate k g
tabulate_whole l k i g h e t = sym (take_all i l (omega arith)) ∙ t ∙ rw e

-- TESTS OVER LISTS
module _ {A : Type 0} where
  pub any_select : (p q : A → Bool) (xs : List A) → any_of q (select p xs) ≡ any_of (λ x. p x && q x) xs
  unfolding any_of select
  any_select p q [] = refl
  any_select p q (x ∷ xs) = go (p x) (any_select p q xs)
    where
      go : (b : Bool) → any_of q (select p xs) ≡ any_of (λ y. p y && q y) xs
          → any_of q (cond b (x ∷ select p xs) (select p xs)) ≡ (b && q x) || any_of (λ y. p y && q y) xs
      go true e = ap (λ (b : Bool). q x || b) e
      go false e = e

  -- every element passes if none fails
  pub all_of_any : (q : A → Bool) (xs : List A) → all_of q xs ≡ not (any_of (λ x. not (q x)) xs)
  unfolding any_of all_of
  all_of_any q [] = refl
  all_of_any q (x ∷ xs) = go (q x) (all_of_any q xs)
    where
      go : (b : Bool) → all_of q xs ≡ not (any_of (λ y. not (q y)) xs) → b && all_of q xs ≡ not (not b || any_of (λ y. not (q y)) xs)
      go true e = e
      go false e = refl

  pub all_mono : (p q : A → Bool) (xs : List A) → ((x : A) → p x ≡ true → q x ≡ true) → all_of p xs ≡ true → all_of q xs ≡ true
  unfolding all_of
  all_mono p q [] h e = refl
  all_mono p q (x ∷ xs) h e =
      and_both (q x) (all_of q xs) (h x (and_left (p x) (all_of p xs) e)) (all_mono p q xs h (and_right (p x) (all_of p xs) e))

  -- a test that some element passes has a witness
  pub any_witness : (q : A → Bool) (xs : List A) → any_of q xs ≡ true → (x : A) × (q x ≡ true)
  unfolding any_of
  any_witness q [] e = absurd (true≢false (sym e))
  any_witness q (x ∷ xs) e = go (q x) refl e (any_witness q xs)
    where
      go : (b : Bool) → q x ≡ b → b || any_of q xs ≡ true → (any_of q xs ≡ true → (y : A) × (q y ≡ true)) → (y : A) × (q y ≡ true)
      go true h e r = (x, h)
      go false h e r = r e

  pub any_append : (q : A → Bool) (xs ys : List A) → any_of q (xs ++ ys) ≡ any_of q xs || any_of q ys
  unfolding any_of
  any_append q [] ys = refl
  any_append q (x ∷ xs) ys = go (q x) (any_append q xs ys)
    where
      go : (b : Bool) → any_of q (xs ++ ys) ≡ any_of q xs || any_of q ys → b || any_of q (xs ++ ys) ≡ (b || any_of q xs) || any_of q ys
      go true e = refl
      go false e = e

  pub any_map : {B : Type 0} (q : A → Bool) (f : B → A) (xs : List B) → any_of q (map f xs) ≡ any_of (λ x. q (f x)) xs
  unfolding any_of
  any_map q f [] = refl
  any_map q f (x ∷ xs) = ap (λ (b : Bool). q (f x) || b) (any_map q f xs)

  pub any_append_left : (q : A → Bool) (xs ys : List A) → any_of q xs ≡ true → any_of q (xs ++ ys) ≡ true
  any_append_left q xs ys e = rw (any_append q xs ys, e)

  pub any_append_right : (q : A → Bool) (xs ys : List A) → any_of q ys ≡ true → any_of q (xs ++ ys) ≡ true
  any_append_right q xs ys e = any_append q xs ys ∙ or_right (any_of q xs) (any_of q ys) e

pub any_tabulate_from : (q : ℕ → Bool) (k a : ℕ) (g : ℕ → ℕ) (i : ℕ) → i < k → q (g (a + i)) ≡ true → any_of q (tabulate_from k a g) ≡ true
unfolding any_of tabulate_from
any_tabulate_from q zero a g i h e = absurd (omega arith)
any_tabulate_from q (suc k) a g zero h e =
    or_left (q (g a)) (any_of q (tabulate_from k (suc a) g)) (subst (λ (j : ℕ). q (g j) ≡ true) (add-zero a) e)
any_tabulate_from q (suc k) a g (suc i) h e =
    or_right (q (g a)) (any_of q (tabulate_from k (suc a) g))
    (any_tabulate_from q k (suc a) g i (omega arith) (subst (λ (j : ℕ). q (g j) ≡ true) (add-suc a i ∙ sym (suc-add a i)) e))

pub any_tabulate : (q : ℕ → Bool) (k : ℕ) (g : ℕ → ℕ) (i : ℕ) → i < k → q (g i) ≡ true → any_of q (tabulate k g) ≡ true
unfolding tabulate
any_tabulate q k g i h e = any_tabulate_from q k 0 g i h (subst (λ (j : ℕ). q (g j) ≡ true) (sym (zero-add i)) e)
