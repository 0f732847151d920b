-- A press on a card, and the card after it: "a press takes a card and writes the next card into the caller's buffer".
-- Assumes nothing: these are definitions.
use Rattle.std.specs.Prelude.{cond, List, ℕ, eqb, length}
use Rattle.commands.specs.Commands.{Command, Result, answered}
use Rattle.history_format.specs.HistoryCard.{open_refusal, model_in, history_card_of}
use Rattle.feed_planner.specs.Store.{Stores}

-- the press, on what the card says and the records that came on it
abbrev pub pressed : (card : List ℕ) → Command → Result
pressed ws c = answered c (model_in ws)

-- the card's refusal, then the press's
unfoldable pub press_refusal : (card : List ℕ) → Command → ℕ
press_refusal ws c = cond (eqb (open_refusal ws) 0) (pressed ws c).answer (open_refusal ws)

-- the card with records of the board that the press leaves
abbrev pub next_card : (card : List ℕ) → Command → List ℕ
next_card ws c = history_card_of (pressed ws c).board

abbrev pub Presses : (card : List ℕ) → Command → (out out' : List ℕ) → (size size' answer : ℕ) → Type 0
Presses ws c out out' n n' a = Stores (press_refusal ws c) (length (next_card ws c)) (next_card ws c) out out' n n' a
