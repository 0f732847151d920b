-- What writing a price list gives (02, A3), as equations. Assumes nothing: these are definitions.
use Rattle.std.specs.Prelude.{◌≡◌, cond, List, ℕ, eqb, length, Result, Ok, Err}
use Rattle.base.specs.Lists.{in_front}
use Rattle.instance.specs.RefusalNumbers.{refusal_number}
use Rattle.instance.specs.declared.refusals.Refusal.{Refusal}
use Rattle.price_format.specs.Writing.{list_text, write_refusal}

-- 0 and the length of the text, or the refusal and 0
pub record ListWritten : Type 0 where
  pub answer : ℕ
  pub length : ℕ

-- what a call tells
abbrev pub writing_told : Result ℕ Refusal → ListWritten
writing_told (Ok k) = record { answer = 0; length = k }
writing_told (Err r) = record { answer = refusal_number r; length = 0 }

-- "returns the text's length"; with a refusal it is 0
unfoldable pub write_result : (prices : List ℕ) → (n root bytes : ℕ) → ListWritten
write_result ps n r k =
    cond (eqb (write_refusal n r ps k) 0) (record { answer = 0; length = length (list_text n r ps) })
    (record { answer = write_refusal n r ps k; length = 0 })

-- "and touches no byte after it; refused, it touches none"
pub record Writes (prices : List ℕ) (n root : ℕ) (old new : List ℕ) (r : ListWritten) : Type 0 where
  pub result : r ≡ write_result prices n root (length old)
  pub buffer : new ≡ cond (eqb r.answer 0) (in_front (list_text n root prices) old) old
