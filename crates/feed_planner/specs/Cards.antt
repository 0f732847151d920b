-- A card written again, and moved from one kind to the other. Assumes nothing: these are definitions.
use Rattle.std.specs.Prelude.{List, ℕ, length}
use Rattle.commands.specs.Model.{opened}
use Rattle.card_format.specs.Card.{card_refusal, instance_in, card_of}
use Rattle.history_format.specs.HistoryCard.{open_refusal, model_in, history_model, to_plain_refusal, history_card_of}
use Rattle.feed_planner.specs.Store.{Stores}

-- a card of either kind as a plain card of the present marks and budget, its records left out
abbrev pub StoresPlain : (ws out out' : List ℕ) → (size size' answer : ℕ) → Type 0
StoresPlain ws out out' n n' a = let c = card_of (model_in ws).instance in Stores (open_refusal ws) (length c) c out out' n n' a

abbrev pub StoresToHistory : (ws out out' : List ℕ) → (size size' answer : ℕ) → Type 0
StoresToHistory ws out out' n n' a = let c = history_card_of (opened (instance_in ws)) in Stores (card_refusal ws) (length c) c out out' n n' a

abbrev pub StoresToPlain : (ws out out' : List ℕ) → (size size' answer : ℕ) → Type 0
StoresToPlain ws out out' n n' a = let c = card_of (history_model ws).instance in Stores (to_plain_refusal ws) (length c) c out out' n n' a
