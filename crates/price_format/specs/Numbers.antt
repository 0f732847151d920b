-- Numbers in a text: the digits at its front, and when they are a number. Assumes nothing: these are definitions.
use Rattle.std.specs.Prelude.{Bool, true, false, ◌&&◌, not, cond, List, [], ◌∷◌, ℕ, leb, eqb}
use Rattle.text.specs.Decimal.{digit}

unfoldable pub is_digit : (byte : ℕ) → Bool
is_digit b = leb (digit 0) b && leb b (digit 9)

-- the digits at the front of a text, as many as there are
unfoldable pub digits_in : (text : List ℕ) → List ℕ
digits_in [] = []
digits_in (b ∷ bs) = cond (is_digit b) (b ∷ digits_in bs) []

-- "decimal with no needless leading zero": some digits, and the first is 0 only where it is the only one
unfoldable pub is_number : (digits : List ℕ) → Bool
is_number [] = false
is_number (d ∷ []) = true
is_number (d ∷ e ∷ ds) = not (eqb d (digit 0))
