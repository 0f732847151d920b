-- A look at a card, a list of calls with a look at the end, and the printed text. Assumes nothing: these are
-- definitions.
use Rattle.std.specs.Prelude.{◌≡◌, cond, List, ℕ, zero, suc, eqb}
use Rattle.history_format.specs.HistoryCard.{open_refusal, model_in}
use Rattle.report_text.specs.Whole.{report_text, refused_text, max_text}
use Rattle.planner.specs.declared.View.{View}
use Rattle.planner.specs.Looking.{Buffers, answer_of, Untouched, LooksValid}
use Rattle.planner.specs.Replaying.{Replays}
use Rattle.feed_planner.specs.Store.{Stores}
use Rattle.feed_planner.specs.Words.{Words, view_words}

-- a view as its number and its words
pub record Views (v : View) (old new : Words) (answer : ℕ) : Type 0 where
  pub number : answer ≡ answer_of v
  pub words : new ≡ view_words v old

-- the look at a card: refused, or the look at the board that it opens as, which is valid
unfoldable pub LooksOn : (refusal : ℕ) → (card : List ℕ) → (old new : Buffers) → View → Type 0
LooksOn (suc a) ws old new v = Untouched (suc a) old new v
LooksOn zero ws old new v = LooksValid (model_in ws).instance old new v

pub record LooksAtCard (ws : List ℕ) (old new : Buffers) (words words' : Words) (answer : ℕ) : Type 0 where
  pub view : View
  pub looks : LooksOn (open_refusal ws) ws old new view
  pub told : Views view words words' answer

pub record ReplaysCard (ws ks fs gs : List ℕ) (answers answers' : List ℕ) (old new : Buffers) (words words' : Words) (answer : ℕ) : Type 0 where
  pub view : View
  pub replays : Replays ws ks fs gs answers answers' old new view
  pub told : Views view words words' answer

-- every card has a text: that of a look, or the line of its refusal. So a text is refused by 14 alone, in a buffer of
-- less than the longest text's length.
unfoldable pub card_text : (card : List ℕ) → List ℕ
card_text ws = cond (eqb (open_refusal ws) 0) (report_text (model_in ws).instance) (refused_text (open_refusal ws))

abbrev pub Prints : (card out out' : List ℕ) → (size size' answer : ℕ) → Type 0
Prints ws out out' n n' a = Stores 0 max_text (card_text ws) out out' n n' a
