-- What moving a card from one kind to the other gives, as equations (02, A8: "A card moves old to new with no records,
-- and new to old only without records"). Assumes nothing: these are definitions.
use Rattle.std.specs.Prelude.{◌≡◌, cond, List, ℕ, eqb}
use Rattle.card_format.specs.Card.{card_refusal, instance_in}
use Rattle.card.specs.Write.{written_to, buffer_after}
use Rattle.card.specs.Write.{Written}
use Rattle.commands.specs.Model.{opened}
use Rattle.history_format.specs.HistoryCard.{history_model, to_plain_refusal}
use Rattle.history_card.specs.Write.{history_written_to, history_buffer_after}

-- a refused card: nothing is written, and the buffer is left as it was
abbrev pub not_moved : (answer : ℕ) → Written
not_moved k = record { answer = k; length = 0 }

-- plain to history: the plain card's own refusals, which give 2 to every history card (`old_reader`): "A move handed
-- the other kind is 2"; "then 14"
pub record MovesToHistory (ws out out' : List ℕ) (r : Written) : Type 0 where
  pub result : r ≡ cond (eqb (card_refusal ws) 0) (history_written_to (opened (instance_in ws)) out) (not_moved (card_refusal ws))
  pub buffer : out' ≡ cond (eqb (card_refusal ws) 0) (history_buffer_after (opened (instance_in ws)) out) out

-- history to plain: the refusals of a history card, "after these, 28 for a move to old with records, then 14"
pub record MovesToPlain (ws out out' : List ℕ) (r : Written) : Type 0 where
  pub result : r ≡ cond (eqb (to_plain_refusal ws) 0) (written_to (history_model ws).instance out) (not_moved (to_plain_refusal ws))
  pub buffer : out' ≡ cond (eqb (to_plain_refusal ws) 0) (buffer_after (history_model ws).instance out) out
