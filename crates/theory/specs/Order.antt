-- The order of lists of parents: "in ascending order of the feeder list, compared position by position, each once" (02,
-- A7), "the first when compared position by position" (02, A10). Assumes nothing: these are definitions.
use Rattle.std.specs.Prelude.{◌≡◌, List, [], ◌∷◌, ◌⊎◌, ℕ, ◌<◌}

-- the first list comes before the second: it has the smaller number at the first position where they differ
pub data Before : List ℕ → List ℕ → Type 0 where
  here : {x y : ℕ} {xs ys : List ℕ} → x < y → Before (x ∷ xs) (y ∷ ys)
  there : {x : ℕ} {xs ys : List ℕ} → Before xs ys → Before (x ∷ xs) (x ∷ ys)

-- it comes before each of these
pub data BeforeAll (xs : List ℕ) : List (List ℕ) → Type 0 where
  none : BeforeAll xs []
  also : {ys : List ℕ} {yss : List (List ℕ)} → Before xs ys → BeforeAll xs yss → BeforeAll xs (ys ∷ yss)

-- each comes before all that follow it, so that none is there twice
pub data Ascending : List (List ℕ) → Type 0 where
  empty : Ascending []
  next : {xs : List ℕ} {xss : List (List ℕ)} → BeforeAll xs xss → Ascending xss → Ascending (xs ∷ xss)

-- the second list is the first, or comes after it
abbrev pub SameOrBefore : List ℕ → List ℕ → Type 0
SameOrBefore xs ys = (xs ≡ ys) ⊎ Before xs ys
