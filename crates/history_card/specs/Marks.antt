-- What the contracts of the marks cite. Assumes nothing: these are definitions.
use Rattle.std.specs.Prelude.{cond, List, [], ℕ, ◌*◌}
use Rattle.base.specs.Digits.{digit}
use Rattle.bits.specs.Bits.{bits_of}
use Rattle.instance.specs.Cuts.{inside}
use Rattle.card_format.specs.Widths.{mark_width}
use Rattle.history_format.specs.HistoryCard.{max_history_card}

-- No record that is read begins behind this place, and no bit that is read is behind the other: more than the longest
-- history card has, so that places are counted in words.
abbrev pub last_place : ℕ
last_place = 16 * max_history_card

abbrev pub last_bit : ℕ
last_bit = 32 * max_history_card

-- the bits of the mark of a head, none if it is not in the set
unfoldable pub one_mark : (heads marks head : ℕ) → List ℕ
one_mark c v h = cond (inside c h) (bits_of mark_width (digit 4 v h)) []
