-- What is reported of a card: "The printing program reads a card on standard input and .. writes". Every byte is an
-- equation, and nothing is free: of what a look leaves free, the cuts, nothing is printed. Assumes nothing: these are
-- definitions.
use Rattle.std.specs.Prelude.{◌≡◌, Bool, true, false, List, ℕ, ltb, eqb, length}
use Rattle.instance.specs.Refusals.{buffer_short}
use Rattle.history_format.specs.HistoryCard.{open_refusal, model_in}
use Rattle.report.specs.declared.Reported.{Reported}
use Rattle.text.specs.Buffer.{Filled}
use Rattle.report_text.specs.Whole.{report_text, refused_text, max_text}

-- 14: "a lent buffer too short", "buffers as before"
pub record Refuses (old new : List ℕ) (r : Reported) : Type 0 where
  pub result : r ≡ record { answer = buffer_short; length = 0 }
  pub buffer : new ≡ old

-- 1 to 5, 7, 8, and 27 of a history card (02, A8): "A refused card prints one line only, as 'refused 3'."
pub record ReportsRefusal (card old new : List ℕ) (r : Reported) : Type 0 where
  pub answer : r.answer ≡ open_refusal card
  pub text : Filled (refused_text (open_refusal card)) old new r.length

-- 0: "A board opened from a card has that card's marks and budget"; a look at it is what is printed: "count, root,
-- budget; total; fed, feeder, price, by fed position; feeder and its n states"
pub record ReportsOpened (card old new : List ℕ) (r : Reported) : Type 0 where
  pub answer : r.answer ≡ 0
  pub text : Filled (report_text (model_in card).instance) old new r.length

-- by whether the buffer is too short for the longest text, and whether the card opens
unfoldable pub ReportsBy : (short opens : Bool) → (card old new : List ℕ) → Reported → Type 0
ReportsBy true opens card old new r = Refuses old new r
ReportsBy false false card old new r = ReportsRefusal card old new r
ReportsBy false true card old new r = ReportsOpened card old new r

-- what is answered for a card, and the buffer before and after
unfoldable pub Reports : (card old new : List ℕ) → Reported → Type 0
Reports card old new r = ReportsBy (ltb (length old) max_text) (eqb (open_refusal card) 0) card old new r
