-- What is answered of an input that may be longer than a price list can be. Assumes nothing: these are definitions.
use Rattle.std.specs.Prelude.{◌≡◌, Bool, true, false, ◌&&◌, cond, List, ℕ, zero, suc, ◌+◌, ltb, eqb, length, get_or, take, Result, Ok, Err, unwrap_or}
use Rattle.base.specs.Bounded.{count_below}
use Rattle.base.specs.Lists.{in_front}
use Rattle.instance.specs.RefusalNumbers.{refusal_number}
use Rattle.text.specs.Lines.{line_feed}
use Rattle.price_card.specs.ToCard.{made, card_listed}
use Rattle.print_card.specs.declared.judge.InputRefused.{InputRefused}
use Rattle.print_card.specs.declared.judge.InputRefused.TheVariants.{List as Listed, LongLine}

-- what came of an input: as for a list; or its first whole lines are a list, and `line`, which follows them, is too
-- long for a line
pub record Judged : Type 0 where
  pub long : Bool
  pub answer : ℕ
  pub line : ℕ
  pub length : ℕ

-- what a call tells
abbrev pub judging_told : Result ℕ InputRefused → Judged
judging_told (Ok k) = record { long = false; answer = 0; line = 0; length = k }
judging_told (Err (Listed e)) = record { long = false; answer = refusal_number e.refusal; line = unwrap_or e.line 0; length = 0 }
judging_told (Err (LongLine l)) = record { long = true; answer = 0; line = l; length = 0 }

-- so many bytes are judged
abbrev pub max_read : ℕ
max_read = 16384

-- the place after the last line feed among the first so many bytes
unfoldable pub line_end : (left : ℕ) → (text : List ℕ) → ℕ
line_end zero t = 0
line_end (suc k) t = cond (eqb (get_or t k 0) line_feed) (suc k) (line_end k t)

unfoldable pub line_feeds : (left : ℕ) → (text : List ℕ) → ℕ
line_feeds k t = count_below k (λ i. eqb (get_or t i 0) line_feed)

-- what is judged: all of it, or its whole lines if it is longer than is judged
unfoldable pub judged_part : (text : List ℕ) → List ℕ
judged_part t = cond (ltb max_read (length t)) (take (line_end (length t) t) t) t

-- as the list is answered, unless there is more behind a list
unfoldable pub judged : (text : List ℕ) → (n root budget bytes : ℕ) → Judged
judged t n r b k =
    let m = made (judged_part t) n r b k in
    cond (ltb max_read (length t) && eqb m.answer 0) (record { long = true; answer = 0; line = line_feeds (length t) t + 1; length = 0 })
    (record { long = false; answer = m.answer; line = m.line; length = m.length })

pub record Judges (text : List ℕ) (n root budget : ℕ) (old new : List ℕ) (r : Judged) : Type 0 where
  pub result : r ≡ judged text n root budget (length old)
  pub card : r.long ≡ false → new ≡ cond (eqb r.answer 0) (in_front (card_listed n root budget (judged_part text)) old) old
