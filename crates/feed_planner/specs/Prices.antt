-- Price lists as text: written, merged, as cards and of cards, each by the result of the call that is passed on. Where
-- a line is faulty its number is told, so the word for it is set by every call. Assumes nothing: these are definitions.
use Rattle.std.specs.Prelude.{◌≡◌, cond, List, ℕ, eqb, length}
use Rattle.price_format.specs.Writing.{list_text}
use Rattle.price_list.specs.Writes.{write_result}
use Rattle.price_card.specs.declared.from_card.CardPrices.{CardPrices}
use Rattle.price_card.specs.ToCard.{made, card_listed}
use Rattle.price_card.specs.FromCard.{listed, refused, instance_list}
use Rattle.price_merge.specs.Merge.{merged, merged_text}
use Rattle.history_format.specs.HistoryCard.{open_refusal, model_in}
use Rattle.feed_planner.specs.Store.{Tells}

-- a list written of prices
abbrev pub StoresList : (prices : List ℕ) → (n root : ℕ) → (out out' : List ℕ) → (word word' answer : ℕ) → Type 0
StoresList ps n r out out' w w' a = let d = write_result ps n r (length out) in Tells d.answer d.length (list_text n r ps) out out' w w' a

-- the list of a card's prices
abbrev pub prices_listed : (card out : List ℕ) → CardPrices
prices_listed ws out = cond (eqb (open_refusal ws) 0) (listed (model_in ws) (length out)) (refused (open_refusal ws))

abbrev pub StoresPrices : (card out out' : List ℕ) → (word word' answer : ℕ) → Type 0
StoresPrices ws out out' w w' a =
    let d = prices_listed ws out in
    Tells d.answer d.length (instance_list (model_in ws).instance) out out' w w' a

-- the card of a list with count, root and budget
pub record StoresMade (text : List ℕ) (n root budget : ℕ) (out out' : List ℕ) (word word' line answer : ℕ) : Type 0 where
  pub stored : let d = made text n root budget (length out) in Tells d.answer d.length (card_listed n root budget text) out out' word word' answer
  pub faulty : line ≡ (made text n root budget (length out)).line

-- the list of the rows that are used of two lists; which list is faulty, 1 the school's, 2 the shipped one, 0 neither
pub record StoresMerged (school shipped : List ℕ) (n root : ℕ) (out out' : List ℕ) (word word' list line answer : ℕ) : Type 0 where
  pub stored : let d = merged school shipped n root (length out) in Tells d.answer d.length (merged_text n root school shipped) out out' word word' answer
  pub faulty_list : list ≡ (merged school shipped n root (length out)).list
  pub faulty_line : line ≡ (merged school shipped n root (length out)).line
