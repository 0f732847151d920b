-- Numbers with a comma between thousands, as in 1,712. Assumes nothing: these are definitions.
use Rattle.std.specs.Prelude.{cond, List, [], ◌∷◌, ◌++◌, ℕ, zero, suc, ◌/◌, ◌%◌, ltb}
use Rattle.text.specs.Decimal.{digit, decimal}
use Rattle.text.specs.Lines.{line_feed}

-- the code of a comma
abbrev pub comma : ℕ
comma = 44

-- a number below 1,000 with its zeros
abbrev pub three_digits : (v : ℕ) → List ℕ
three_digits v = digit (v / 100) ∷ digit (v / 10 % 10) ∷ digit (v % 10) ∷ []

-- v in groups of three digits, where so many groups are enough: the groups of v / 1000 unless that is 0, and behind
-- them a comma and the last three digits
unfoldable pub grouped_in : (groups v : ℕ) → List ℕ
grouped_in zero v = []
grouped_in (suc k) v = cond (ltb v 1000) (decimal v) (grouped_in k (v / 1000) ++ (comma ∷ three_digits (v % 1000)))

-- four are enough for a number of 32 bits
unfoldable pub grouped : (v : ℕ) → List ℕ
grouped v = grouped_in 4 v

-- a label and such a number, and the same at a line's end
abbrev pub amount : (label : List ℕ) → (v : ℕ) → List ℕ
amount l v = l ++ grouped v

abbrev pub amount_line : (label : List ℕ) → (v : ℕ) → List ℕ
amount_line l v = amount l v ++ (line_feed ∷ [])
