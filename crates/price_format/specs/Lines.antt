-- The line at the front of a text (02, A3): "A line is feeder, space, fed, space, pence, line feed; decimal with no
-- needless leading zero." Assumes nothing: these are definitions.
use Rattle.std.specs.Prelude.{Bool, ◌&&◌, List, [], ◌∷◌, ℕ, ◌+◌, eqb, length, get_or, drop}
use Rattle.text.specs.Decimal.{value_after}
use Rattle.text.specs.Lines.{space, line_feed, line_of_three}
use Rattle.price_format.specs.Numbers.{digits_in, is_number}

-- an arc and its weight: feeder, fed, pence
pub record Line : Type 0 where
  pub tail : ℕ
  pub head : ℕ
  pub weight : ℕ

-- A NUMBER AT THE FRONT
-- whether there is one, and the separator behind it
unfoldable pub number_then : (separator : ℕ) → (text : List ℕ) → Bool
number_then s t = is_number (digits_in t) && eqb (get_or t (length (digits_in t)) 0) s

-- which one: of any length
unfoldable pub first_number : (text : List ℕ) → ℕ
first_number t = value_after 0 (digits_in t)

-- what follows it and its separator
unfoldable pub after_number : (text : List ℕ) → List ℕ
after_number t = drop (length (digits_in t) + 1) t

-- A LINE AT THE FRONT
unfoldable pub has_line : (text : List ℕ) → Bool
has_line t = number_then space t && (number_then space (after_number t) && number_then line_feed (after_number (after_number t)))

unfoldable pub first_line : (text : List ℕ) → Line
first_line t = record { tail = first_number t; head = first_number (after_number t); weight = first_number (after_number (after_number t)) }

unfoldable pub after_line : (text : List ℕ) → List ℕ
after_line t = after_number (after_number (after_number t))

-- A LINE AS IT IS WRITTEN
abbrev pub line_text : (tail head weight : ℕ) → List ℕ
line_text t h w = line_of_three [] t (space ∷ []) h (space ∷ []) w
