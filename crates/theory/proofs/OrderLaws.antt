-- The order of lists of parents: no list comes before itself, and no two before one another. The candidates ascend, and
-- so do those that are selected from them, and the first ones of a list that ascends; no two of such a list are alike,
-- and its first comes before all others. Assumes nothing.
use mathlib.Core.Path.{◌≡◌, refl, sym, ap, subst}
use mathlib.Core.Bool.{Bool, true, false, ◌&&◌, ◌||◌, cond, true≢false}
use mathlib.Core.List.{List, [], ◌∷◌, ◌++◌, map}
use mathlib.Core.Logic.{◌⊎◌, inl, inr, ⊎_elim, ◌≢◌}
use Prim.Native.Nat.{ℕ, zero, suc, ◌≤◌, ◌<◌}
use native.Mathlib.Omega.{arith}
use native.Mathlib.Nat.{eq-or-lt_of_le}
use lib.Dec.{ltb, eqb}
use lib.ListN.{length, get_or, take}
use borrow.Author.Tests.{ltb-true, lt-ltb, eqb-true, eq-eqb}
use Rattle.base.specs.Lists.{tabulate, tabulate_from, select, all_of}
use Rattle.base.proofs.BoolLaws.{and_left, and_right, and_both, or_cases, or_left, or_right}
use Rattle.instance.specs.Limits.{no_parent}
use Rattle.instance.specs.Instance.{Instance}
use Rattle.instance.specs.Arborescence.{is_arborescence}
use Rattle.instance.specs.Candidates.{prefixed, choices, candidates_from, candidates, arborescences}
use Rattle.instance.specs.States.{fits, fitting}
use Rattle.theory.specs.Order.{Before, here, there, BeforeAll, none, also, Ascending, empty, next, SameOrBefore}

-- ONE WAY ONLY
-- the order of two lists, read at their fronts
front_reads : {x y : ℕ} {xs ys : List ℕ} → Before (x ∷ xs) (y ∷ ys) → (x < y) ⊎ ((x ≡ y) × Before xs ys)
front_reads (here l) = inl l
front_reads (there b) = inr (refl, b)

pub before_once : (xs ys : List ℕ) → Before xs ys → Before ys xs → ⊥
before_once [] ys a b = elim a [ ]
before_once (x ∷ xs) [] a b = elim a [ ]
before_once (x ∷ xs) (y ∷ ys) a b = at (before_once xs ys) (front_reads a) (front_reads b)
  where
    at : (Before xs ys → Before ys xs → ⊥) → (x < y) ⊎ ((x ≡ y) × Before xs ys) → (y < x) ⊎ ((y ≡ x) × Before ys xs) → ⊥
    at r (inl l) (inl m) = omega arith
    at r (inl l) (inr m) = omega arith
    at r (inr l) (inl m) = omega arith
    at r (inr l) (inr m) = r l.1 m.1

pub before_irreflexive : (xs : List ℕ) → Before xs xs → ⊥
before_irreflexive xs b = before_once xs xs b b

pub both_same : (xs ys : List ℕ) → SameOrBefore xs ys → SameOrBefore ys xs → xs ≡ ys
both_same xs ys (inl e) q = e
both_same xs ys (inr b) (inl e) = sym e
both_same xs ys (inr b) (inr c) = absurd (before_once xs ys b c)

-- WHERE TWO LISTS FIRST DIFFER
-- one number more in front of both
more_front : (x y : ℕ) (xs ys : List ℕ) → x ≡ y → SameOrBefore xs ys → SameOrBefore (x ∷ xs) (y ∷ ys)
more_front x y xs ys e r =
    subst (λ (z : ℕ). SameOrBefore (x ∷ xs) (z ∷ ys)) e
    (⊎_elim (λ (q : xs ≡ ys). inl (ap (λ (l : List ℕ). x ∷ l) q)) (λ (b : Before xs ys). inr (there b)) r)

-- of one length, and at each place up to which they agree the first has the smaller number or the same
pub first_differ : (d : ℕ) (xs ys : List ℕ) → length xs ≡ length ys
    → ((u : ℕ) → u < length xs → ((w : ℕ) → w < u → get_or xs w d ≡ get_or ys w d) → get_or xs u d ≤ get_or ys u d) → SameOrBefore xs ys
first_differ d [] [] e h = inl refl
first_differ d [] (y ∷ ys) e h = absurd (omega arith)
first_differ d (x ∷ xs) [] e h = absurd (omega arith)
first_differ d (x ∷ xs) (y ∷ ys) e h =
    ⊎_elim
    (λ (q : x ≡ y).
    more_front x y xs ys q (first_differ d xs ys (omega arith) (λ u l g. h (suc u) (omega arith) (λ w m. at q u g w m))))
    (λ (l : x < y). inr (here l)) (eq-or-lt_of_le (h 0 (omega arith) (λ w m. absurd (omega arith))))
  where
    at : x ≡ y → (u : ℕ) → ((w : ℕ) → w < u → get_or xs w d ≡ get_or ys w d) → (w : ℕ) → w < suc u → get_or (x ∷ xs) w d ≡ get_or (y ∷ ys) w d
    at q u g zero m = q
    at q u g (suc w) m = g w (omega arith)

-- A TEST FOR IT, so that it can be asked of every list that is selected
unfoldable pub same_or_before : List ℕ → List ℕ → Bool
same_or_before [] [] = true
same_or_before [] (y ∷ ys) = false
same_or_before (x ∷ xs) [] = false
same_or_before (x ∷ xs) (y ∷ ys) = ltb x y || (eqb x y && same_or_before xs ys)

same_passes : (xs : List ℕ) → same_or_before xs xs ≡ true
unfolding same_or_before
same_passes [] = refl
same_passes (x ∷ xs) =
    or_right (ltb x x) (eqb x x && same_or_before xs xs) (and_both (eqb x x) (same_or_before xs xs) (eq-eqb x x refl) (same_passes xs))

before_passes : {xs ys : List ℕ} → Before xs ys → same_or_before xs ys ≡ true
unfolding same_or_before
before_passes (here {x = x} {y = y} {xs = xs} {ys = ys} l) = or_left (ltb x y) (eqb x y && same_or_before xs ys) (lt-ltb x y l)
before_passes (there {x = x} {xs = xs} {ys = ys} b) =
    or_right (ltb x x) (eqb x x && same_or_before xs ys) (and_both (eqb x x) (same_or_before xs ys) (eq-eqb x x refl) (before_passes b))

pub passes_reads : (xs ys : List ℕ) → same_or_before xs ys ≡ true → SameOrBefore xs ys
unfolding same_or_before
passes_reads [] [] e = inl refl
passes_reads [] (y ∷ ys) e = absurd (true≢false (sym e))
passes_reads (x ∷ xs) [] e = absurd (true≢false (sym e))
passes_reads (x ∷ xs) (y ∷ ys) e =
    ⊎_elim (λ (l : ltb x y ≡ true). inr (here (ltb-true x y l)))
    (λ (q : eqb x y && same_or_before xs ys ≡ true).
    more_front x y xs ys (eqb-true x y (and_left (eqb x y) (same_or_before xs ys) q)) (passes_reads xs ys (and_right (eqb x y) (same_or_before xs ys) q)))
    (or_cases (ltb x y) (eqb x y && same_or_before xs ys) e)

-- SOME OF A LIST THAT ASCENDS
module _ (q : List ℕ → Bool) where
  before_select : {xs : List ℕ} {xss : List (List ℕ)} → BeforeAll xs xss → BeforeAll xs (select q xss)
  unfolding select
  before_select none = none
  before_select {xs} (also {ys = ys} {yss = yss} b r) = at (q ys) (before_select r)
    where
      at : (t : Bool) → BeforeAll xs (select q yss) → BeforeAll xs (cond t (ys ∷ select q yss) (select q yss))
      at true x = also b x
      at false x = x

  pub select_ascending : {xss : List (List ℕ)} → Ascending xss → Ascending (select q xss)
  unfolding select
  select_ascending empty = empty
  select_ascending (next {xs = xs} {xss = xss} b a) = at (q xs) (select_ascending a)
    where
      at : (t : Bool) → Ascending (select q xss) → Ascending (cond t (xs ∷ select q xss) (select q xss))
      at true x = next (before_select b) x
      at false x = x

before_take : (k : ℕ) {xs : List ℕ} {xss : List (List ℕ)} → BeforeAll xs xss → BeforeAll xs (take k xss)
before_take zero r = none
before_take (suc k) none = none
before_take (suc k) (also b r) = also b (before_take k r)

pub take_ascending : (k : ℕ) {xss : List (List ℕ)} → Ascending xss → Ascending (take k xss)
take_ascending zero a = empty
take_ascending (suc k) empty = empty
take_ascending (suc k) (next b a) = next (before_take k b) (take_ascending k a)

-- ONE NUMBER IN FRONT
module _ (x : ℕ) (rest : List (List ℕ)) (after : (l : List ℕ) → BeforeAll (x ∷ l) rest) where
  before_front : {l : List ℕ} {ls : List (List ℕ)} → BeforeAll l ls → BeforeAll (x ∷ l) (map (λ k. x ∷ k) ls ++ rest)
  before_front {l} none = after l
  before_front (also b r) = also (there b) (before_front r)

  ascending_front : {ls : List (List ℕ)} → Ascending ls → Ascending rest → Ascending (map (λ k. x ∷ k) ls ++ rest)
  ascending_front empty r = r
  ascending_front (next b a) r = next (before_front b) (ascending_front a r)

-- EACH NUMBER IN FRONT
before_map : (x y : ℕ) (l : List ℕ) → x < y → (ls rest : List (List ℕ)) → BeforeAll (x ∷ l) rest → BeforeAll (x ∷ l) (map (λ k. y ∷ k) ls ++ rest)
before_map x y l b [] rest r = r
before_map x y l b (k ∷ ls) rest r = also (here b) (before_map x y l b ls rest r)

before_prefixed : (k a x : ℕ) (ls : List (List ℕ)) (l : List ℕ) → x < a → BeforeAll (x ∷ l) (prefixed (tabulate_from k a (λ t. t)) ls)
unfolding prefixed tabulate_from
before_prefixed zero a x ls l b = none
before_prefixed (suc k) a x ls l b = before_map x a l b ls (prefixed (tabulate_from k (suc a) (λ t. t)) ls) (before_prefixed k (suc a) x ls l (omega arith))

prefixed_ascending : (k a : ℕ) (ls : List (List ℕ)) → Ascending ls → Ascending (prefixed (tabulate_from k a (λ t. t)) ls)
unfolding prefixed tabulate_from
prefixed_ascending zero a ls r = empty
prefixed_ascending (suc k) a ls r =
    ascending_front a (prefixed (tabulate_from k (suc a) (λ t. t)) ls) (λ l. before_prefixed k (suc a) a ls l (omega arith)) r (prefixed_ascending k (suc a) ls r)

-- THE CANDIDATES
module _ (s : Instance) where
  candidates_from_ascending : (k v : ℕ) → Ascending (candidates_from k v s)
  unfolding candidates_from choices tabulate prefixed
  candidates_from_ascending zero v = next none empty
  candidates_from_ascending (suc k) v = at (eqb v s.root) (candidates_from_ascending k (suc v))
    where
      at : (b : Bool) → Ascending (candidates_from k (suc v) s)
          → Ascending (prefixed (cond b (no_parent ∷ []) (tabulate s.n (λ t. t))) (candidates_from k (suc v) s))
      at true r = ascending_front no_parent [] (λ l. none) r empty
      at false r = prefixed_ascending s.n 0 (candidates_from k (suc v) s) r

  pub candidates_ascending : Ascending (candidates s)
  unfolding candidates
  candidates_ascending = candidates_from_ascending s.n 0

  pub arborescences_ascending : Ascending (arborescences s)
  unfolding arborescences
  arborescences_ascending = select_ascending (is_arborescence s) candidates_ascending

  pub fitting_ascending : Ascending (fitting s)
  unfolding fitting
  fitting_ascending = select_ascending (fits s) candidates_ascending

-- EACH ONCE: no two of an ascending list are alike
before_at : {xs : List ℕ} {xss : List (List ℕ)} → BeforeAll xs xss → (j : ℕ) → j < length xss → Before xs (get_or xss j [])
before_at none j l = absurd (omega arith)
before_at (also b r) zero l = b
before_at (also b r) (suc j) l = before_at r j (omega arith)

pub ascending_once : {xss : List (List ℕ)} → Ascending xss → (i j : ℕ) → i < j → j < length xss → get_or xss i [] ≢ get_or xss j []
ascending_once empty i j l m e = omega arith
ascending_once (next b a) i zero l m e = omega arith
ascending_once (next {xs = xs} {xss = xss} b a) zero (suc j) l m e =
    before_irreflexive xs (subst (λ (ys : List ℕ). Before xs ys) (sym e) (before_at b j (omega arith)))
ascending_once (next b a) (suc i) (suc j) l m e = ascending_once a i j (omega arith) (omega arith) e

-- THE FIRST of an ascending list: each of the list is it, or comes after it
all_pass : {xs : List ℕ} {xss : List (List ℕ)} → BeforeAll xs xss → all_of (same_or_before xs) xss ≡ true
unfolding all_of
all_pass none = refl
all_pass {xs} (also {ys = ys} {yss = yss} b r) = and_both (same_or_before xs ys) (all_of (same_or_before xs) yss) (before_passes b) (all_pass r)

pub first_passes : {xss : List (List ℕ)} (d : List ℕ) → Ascending xss → all_of (same_or_before (get_or xss 0 d)) xss ≡ true
unfolding all_of
first_passes d empty = refl
first_passes d (next {xs = xs} {xss = xss} b a) =
    and_both (same_or_before xs xs) (all_of (same_or_before xs) xss) (same_passes xs) (all_pass b)
