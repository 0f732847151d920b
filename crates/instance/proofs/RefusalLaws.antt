-- No refusal has the number 0, which says that a call is accepted: so the answer tells a refused call from an accepted
-- one. Assumes nothing.
use mathlib.Core.Path.{◌≡◌, refl, sym}
use mathlib.Core.Bool.{true, false, true≢false}
use Rattle.std.specs.Prelude.{Result, Ok, Err, is_err}
use lib.Dec.{eqb}
use borrow.Author.Tests.{eqb-false}
use Rattle.instance.specs.RefusalNumbers.{refusal_number, answer_of}
use Rattle.instance.specs.declared.refusals.Refusal.{Refusal}
use Rattle.instance.specs.declared.refusals.Refusal.TheVariants.{CardShort, BadCount, BadLength, BadRoot, BadCardBudget, BadWeight, BadMark, BadFilling, NoVertex, NoSuchArc, BadBudget, HistoryFull, HistoryEmpty, BufferShort, InvalidBoard, BadLine, LineNoVertex, LineNoArc, WeightTooHigh, NamedBefore, NotArborescence, WrongTotal, BadCut, Overcharged, WrongValues, BadTryLimit, BadRecord, HasRecords, CountOutOfRange, OutOfRange, UnequalPair}

pub eqb_0 : (r : Refusal) → eqb (refusal_number r) 0 ≡ false
eqb_0 CardShort = refl
eqb_0 BadCount = refl
eqb_0 BadLength = refl
eqb_0 BadRoot = refl
eqb_0 BadCardBudget = refl
eqb_0 BadWeight = refl
eqb_0 BadMark = refl
eqb_0 BadFilling = refl
eqb_0 NoVertex = refl
eqb_0 NoSuchArc = refl
eqb_0 BadBudget = refl
eqb_0 HistoryFull = refl
eqb_0 HistoryEmpty = refl
eqb_0 BufferShort = refl
eqb_0 InvalidBoard = refl
eqb_0 BadLine = refl
eqb_0 LineNoVertex = refl
eqb_0 LineNoArc = refl
eqb_0 WeightTooHigh = refl
eqb_0 NamedBefore = refl
eqb_0 NotArborescence = refl
eqb_0 WrongTotal = refl
eqb_0 BadCut = refl
eqb_0 Overcharged = refl
eqb_0 WrongValues = refl
eqb_0 BadTryLimit = refl
eqb_0 BadRecord = refl
eqb_0 HasRecords = refl
eqb_0 CountOutOfRange = refl
eqb_0 OutOfRange = refl
eqb_0 UnequalPair = refl

pub not_0 : (r : Refusal) → refusal_number r ≡ 0 → ⊥
not_0 r = eqb-false (refusal_number r) 0 (eqb_0 r)

module _ {A : Type 0} where
  pub answer_of_ok : (r : Result A Refusal) → is_err r ≡ false → answer_of r ≡ 0
  answer_of_ok (Ok x) e = refl
  answer_of_ok (Err x) e = absurd (true≢false e)

  pub answer_of_err : (r : Result A Refusal) → is_err r ≡ true → answer_of r ≡ 0 → ⊥
  answer_of_err (Ok x) e = absurd (true≢false (sym e))
  answer_of_err (Err x) e = not_0 x
