-- Why a link of a card is closed, open or sure, and the plan without it: the planner's own promises, said of what the
-- card says. Assumes nothing: these are definitions.
use Rattle.std.specs.Prelude.{◌≡◌, true, cond, List, ℕ, eqb, length}
use Rattle.history_format.specs.HistoryCard.{open_refusal, model_in}
use Rattle.planner.specs.declared.Reason.{Reason}
use Rattle.planner.specs.declared.View.{View}
use Rattle.planner.specs.Explaining.{TreeBuffers, reason_answer, explain_answer, ExplainsAt, PlansWithoutAt}
use Rattle.feed_planner.specs.Words.{Words, ReasonWords, reason_words}
use Rattle.feed_planner.specs.Looking.{Views}

-- the card's refusal, then those of the call: 9, 10, 14. A card that opens is no damaged board, so 15 never comes.
unfoldable pub explain_card_refusal : (card : List ℕ) → (tail head : ℕ) → (parents cuts : ℕ) → ℕ
explain_card_refusal ws t h a c = cond (eqb (open_refusal ws) 0) (explain_answer true (model_in ws).instance t h a c) (open_refusal ws)

abbrev pub refusal_for : (card : List ℕ) → (tail head : ℕ) → TreeBuffers → ℕ
refusal_for ws t h x = explain_card_refusal ws t h (length x.parents) (length x.cuts)

-- a reason as its number and its words
pub record ReasonInWords (r : Reason) (old new : ReasonWords) (answer : ℕ) : Type 0 where
  pub number : answer ≡ reason_answer r
  pub words : new ≡ reason_words r old

pub record ExplainsCard (ws : List ℕ) (tail head : ℕ) (old new : TreeBuffers) (words words' : ReasonWords) (answer : ℕ) : Type 0 where
  pub reason : Reason
  pub explains : ExplainsAt (refusal_for ws tail head old) (model_in ws) tail head old new reason
  pub in_words : ReasonInWords reason words words' answer

pub record PlansWithoutCard (ws : List ℕ) (tail head : ℕ) (old new : TreeBuffers) (words words' : Words) (answer : ℕ) : Type 0 where
  pub view : View
  pub plans : PlansWithoutAt (refusal_for ws tail head old) (model_in ws).instance tail head old new view
  pub views : Views view words words' answer
