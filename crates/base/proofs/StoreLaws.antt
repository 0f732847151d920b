-- One element stored into two lists alike. Assumes nothing.
use mathlib.Core.Path.{◌≡◌, refl}
use mathlib.Core.List.{List, [], ◌∷◌}
use Prim.Native.Nat.{ℕ, zero, suc}
use native.Mathlib.Omega.{arith}
use lib.ListN.{length, get_or, set}

-- in lists of one length, elements that were equal stay equal
pub store_alike :
    {A : Type 0} (d v : A) (xs ys : List A) (i j : ℕ) → length xs ≡ length ys → get_or xs j d ≡ get_or ys j d → get_or (set xs i v) j d ≡ get_or (set ys i v) j d
store_alike d v [] [] i j n e = refl
store_alike d v [] (y ∷ ys) i j n e = absurd (omega (arith, n))
store_alike d v (x ∷ xs) [] i j n e = absurd (omega (arith, n))
store_alike d v (x ∷ xs) (y ∷ ys) zero zero n e = refl
store_alike d v (x ∷ xs) (y ∷ ys) zero (suc j) n e = e
store_alike d v (x ∷ xs) (y ∷ ys) (suc i) zero n e = e
store_alike d v (x ∷ xs) (y ∷ ys) (suc i) (suc j) n e = store_alike d v xs ys i j (omega (arith, n)) e
