-- Exactly the listing of all feed trees within the plain budget (02, A7): a list of parents is among the fitting ones
-- if and only if it fits. Assumes nothing.
use mathlib.Core.Path.{◌≡◌, refl, sym, ap, ◌∙◌}
use mathlib.Core.Bool.{Bool, true, false, ◌&&◌, cond, true≢false}
use mathlib.Core.List.Memᴰ
use mathlib.Core.List.{List, [], ◌∷◌, Memᴰ}
use mathlib.Core.Logic.{◌↔◌, ⊎_elim}
use Prim.Native.Nat.{ℕ}
use lib.Dec.{eqb}
use borrow.Author.Tests.{eqb-true, eq-eqb}
use Rattle.base.specs.Lists.{select, any_of}
use Rattle.base.proofs.BoolLaws.{and_left, and_right, and_both, or_cases}
use Rattle.instance.specs.Instance.{Instance}
use Rattle.instance.specs.Candidates.{candidates}
use Rattle.instance.specs.States.{fits, fitting}
use Rattle.theory.proofs.CandidateLaws.{any_selected}
use Rattle.theory.proofs.FitLaws.{fits_arborescence}

-- mathlib's membership
abbrev pub Among : List ℕ → List (List ℕ) → Type 0
Among ps pss = Memᴰ ps pss

-- a test for equal lists, since the law of the candidates speaks of tests
unfoldable equal : List ℕ → List ℕ → Bool
equal [] [] = true
equal [] (y ∷ ys) = false
equal (x ∷ xs) [] = false
equal (x ∷ xs) (y ∷ ys) = eqb x y && equal xs ys

equal_itself : (xs : List ℕ) → equal xs xs ≡ true
unfolding equal
equal_itself [] = refl
equal_itself (x ∷ xs) = and_both (eqb x x) (equal xs xs) (eq-eqb x x refl) (equal_itself xs)

equal_reads : (xs ys : List ℕ) → equal xs ys ≡ true → xs ≡ ys
unfolding equal
equal_reads [] [] e = refl
equal_reads [] (y ∷ ys) e = absurd (true≢false (sym e))
equal_reads (x ∷ xs) [] e = absurd (true≢false (sym e))
equal_reads (x ∷ xs) (y ∷ ys) e = rw (eqb-true x y (and_left (eqb x y) (equal xs ys) e), equal_reads xs ys (and_right (eqb x y) (equal xs ys) e))

found : (ps : List ℕ) (pss : List (List ℕ)) → any_of (equal ps) pss ≡ true → Among ps pss
unfolding any_of
found ps [] e = absurd (true≢false (sym e))
found ps (qs ∷ pss) e =
    ⊎_elim (λ (h : equal ps qs ≡ true). Memᴰ.head (equal_reads ps qs h)) (λ (h : any_of (equal ps) pss ≡ true). Memᴰ.tail (found ps pss h))
    (or_cases (equal ps qs) (any_of (equal ps) pss) e)

-- what is selected passes the test
passes : (q : List ℕ → Bool) (ps : List ℕ) (pss : List (List ℕ)) → Among ps (select q pss) → q ps ≡ true
unfolding select
passes q ps [] m = absurd (Memᴰ.not-nil m)
passes q ps (qs ∷ pss) m = at (q qs) refl m (passes q ps pss)
  where
    at : (b : Bool) → q qs ≡ b → Among ps (cond b (qs ∷ select q pss) (select q pss)) → (Among ps (select q pss) → q ps ≡ true) → q ps ≡ true
    at true e k ih = ⊎_elim (λ (z : ps ≡ qs). ap q z ∙ e) ih (Memᴰ.cases_cons k)
    at false e k ih = ih k

pub among_fitting : (s : Instance) (ps : List ℕ) → Among ps (fitting s) ↔ (fits s ps ≡ true)
unfolding fitting
among_fitting s ps = (
  passes (fits s) ps (candidates s),
  λ e. found ps (select (fits s) (candidates s)) ((any_selected s (fits s) (fits_arborescence s) (equal ps)).1 (ps, e, equal_itself ps)),
)
