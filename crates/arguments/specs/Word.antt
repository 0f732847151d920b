-- When a word of the arguments is a number, and which one. No contract can say which word an argument is, so what is
-- promised of an argument is that some word was read. Assumes nothing: these are definitions.
use Rattle.std.specs.Prelude.{◌≡◌, Bool, true, false, ◌&&◌, not, List, ℕ, ◌≤◌, eqb, length, Option, MatchOption}
use Rattle.price_format.specs.Numbers.{digits_in}
use Rattle.price_format.specs.Lines.{first_number}
use Rattle.price_list.specs.Numbers.{capped}

-- the longest word that is read
abbrev pub max_word : ℕ
max_word = 64

-- some bytes, and all of them digits; a 0 in front is allowed, unlike in a price list
unfoldable pub is_number : (word : List ℕ) → Bool
is_number w = not (eqb (length w) 0) && eqb (length (digits_in w)) (length w)

-- a word as a number, if it is one
abbrev pub ReadsWord : (word : List ℕ) → Option ℕ → Type 0
ReadsWord w r = MatchOption r (is_number w ≡ false) (λ v. (is_number w ≡ true) × (v ≡ capped (first_number w)))

-- an argument as a number: that of some word, no longer than the longest
pub record ReadsSome (r : Option ℕ) : Type 0 where
  pub word : List ℕ
  pub short : length word ≤ max_word
  pub reads : ReadsWord word r
