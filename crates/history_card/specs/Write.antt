-- What writing a history card gives. Assumes nothing: these are definitions.
use Rattle.std.specs.Prelude.{◌≡◌, cond, List, ltb, length, ℕ}
use Rattle.base.specs.Lists.{in_front}
use Rattle.instance.specs.Refusals.{buffer_short}
use Rattle.card.specs.Write.{Written}
use Rattle.commands.specs.Model.{Model}
use Rattle.history_format.specs.HistoryCard.{history_bytes, history_card_of}

-- 14: "a lent buffer too short", "board and buffers as before"; else it "returns the needed length"
unfoldable pub history_written_to : Model → (out : List ℕ) → Written
history_written_to m out =
    cond (ltb (length out) (history_bytes m)) (record { answer = buffer_short; length = 0 }) (record { answer = 0; length = history_bytes m })

-- "touches only the needed bytes"
unfoldable pub history_buffer_after : Model → (out : List ℕ) → List ℕ
history_buffer_after m out = cond (ltb (length out) (history_bytes m)) out (in_front (history_card_of m) out)

pub record HistoryWritten (m : Model) (before after : List ℕ) (r : Written) : Type 0 where
  pub result : r ≡ history_written_to m before
  pub buffer : after ≡ history_buffer_after m before
