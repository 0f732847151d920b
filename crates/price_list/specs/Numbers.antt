-- What the functions that read numbers in a text promise. Assumes nothing: these are definitions.
use Rattle.std.specs.Prelude.{◌≡◌, true, false, cond, List, ℕ, ◌+◌, ◌≤◌, leb, length, drop, Option, MatchOption}
use Rattle.price_format.specs.Numbers.{digits_in}
use Rattle.price_format.specs.Lines.{number_then, first_number}
use Rattle.price_list.specs.declared.numbers.Digits.{Digits}
use Rattle.price_list.specs.declared.numbers.Number.{Number}

-- stands for all larger numbers: it is out of every range
abbrev pub cap : ℕ
cap = 100000000

unfoldable pub capped : (v : ℕ) → ℕ
capped v = cond (leb v cap) v cap

-- the digits at a place
pub record Scans (text : List ℕ) (at : ℕ) (r : Digits) : Type 0 where
  pub value : r.value ≡ capped (first_number (drop at text))
  pub end : r.end ≡ at + length (digits_in (drop at text))
  pub within : r.end ≤ length text

-- a number at a place, and its separator
pub record NumberAt (text : List ℕ) (at separator : ℕ) (r : Number) : Type 0 where
  pub stands : number_then separator (drop at text) ≡ true
  pub value : r.value ≡ capped (first_number (drop at text))
  pub next : r.next ≡ at + (length (digits_in (drop at text)) + 1)
  pub within : r.next ≤ length text

-- if one stands there
abbrev pub ReadsNumber : (text : List ℕ) (at separator : ℕ) → Option Number → Type 0
ReadsNumber text at separator r = MatchOption r (number_then separator (drop at text) ≡ false) (NumberAt text at separator)
