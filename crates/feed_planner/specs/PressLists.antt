-- A prepared list of presses (02, A1), handed in as numbers: kinds, and two numbers for each, as `replay` has them.
-- Assumes nothing: these are definitions.
use Rattle.std.specs.Prelude.{◌≡◌, ◌||◌, cond, List, [], ◌∷◌, ℕ, suc, ltb, eqb, length}
use Rattle.instance.specs.Refusals.{buffer_short}
use Rattle.commands.specs.Model.{Model}
use Rattle.commands.specs.Commands.{answered}
use Rattle.board.specs.ModelOf.{model_of}
use Rattle.board.specs.declared.Board.{Board}
use Rattle.feed_planner.specs.declared.press_lists.Pressed.{Pressed}
use Rattle.history_format.specs.HistoryCard.{open_refusal, model_in, history_card_of}
use Rattle.planner.specs.Replaying.{Call, command, look, write, calls}
use Rattle.feed_planner.specs.Store.{kept, Stores}

-- a kind that presses nothing, which no list of the planner's own can hold
abbrev pub no_such_press : ℕ
no_such_press = 32

-- "how many were applied and the refusal number, or 0", and what is left
pub record ListPressed : Type 0 where
  pub applied : ℕ
  pub answer : ℕ
  pub board : Model

abbrev pub none_pressed : (answer : ℕ) → Model → ListPressed
none_pressed a m = record { applied = 0; answer = a; board = m }

abbrev pub one_more : ListPressed → ListPressed
one_more r = record { applied = suc r.applied; answer = r.answer; board = r.board }

-- "apply them in order, and stop at the first refused one. What the earlier ones did stands": a kind that presses
-- nothing is refused as a press is
unfoldable pub list_pressed : List Call → Model → ListPressed
list_pressed [] m = none_pressed 0 m
list_pressed (command c ∷ cs) m =
    let a = (answered c m).answer in
    cond (eqb a 0) (one_more (list_pressed cs (answered c m).board)) (none_pressed a m)
list_pressed (look ∷ cs) m = none_pressed no_such_press m
list_pressed (write ∷ cs) m = none_pressed no_such_press m

-- what the program's list gave, and the board that it left
abbrev pub left_by : Pressed → Board → ListPressed
left_by r b = record { applied = r.applied; answer = r.stopped; board = model_of b }

-- THE CALL
-- fewer numbers than kinds
abbrev pub numbers_short : (kinds firsts seconds : ℕ) → ℕ
numbers_short k f s = cond (ltb f k || ltb s k) buffer_short 0

-- the card's refusal, then 14 for the lists of numbers
unfoldable pub list_refusal : (card kinds firsts seconds : List ℕ) → ℕ
list_refusal ws ks fs gs = cond (eqb (open_refusal ws) 0) (numbers_short (length ks) (length fs) (length gs)) (open_refusal ws)

abbrev pub pressed_on : (card kinds firsts seconds : List ℕ) → ListPressed
pressed_on ws ks fs gs = list_pressed (calls ks fs gs) (model_in ws)

-- A press of the list that is refused is no refusal of the call: the card of what the earlier ones did is written, and
-- how many they are and the refused one's number go into two words.
pub record PressesList (ws ks fs gs : List ℕ) (out out' : List ℕ) (size size' applied applied' stopped stopped' answer : ℕ) : Type 0 where
  pub stored : let c = history_card_of (pressed_on ws ks fs gs).board in Stores (list_refusal ws ks fs gs) (length c) c out out' size size' answer
  pub applied_word : applied' ≡ kept answer (pressed_on ws ks fs gs).applied applied
  pub stopped_word : stopped' ≡ kept answer (pressed_on ws ks fs gs).answer stopped
