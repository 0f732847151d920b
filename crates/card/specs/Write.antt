-- What writing a card gives. Assumes nothing: these are definitions.
use Rattle.std.specs.Prelude.{◌≡◌, cond, List, ltb, length, ℕ, Result, Ok, Err}
use Rattle.base.specs.Lists.{in_front}
use Rattle.instance.specs.Refusals.{buffer_short}
use Rattle.instance.specs.RefusalNumbers.{refusal_number}
use Rattle.instance.specs.declared.refusals.Refusal.{Refusal}
use Rattle.instance.specs.Instance.{Instance}
use Rattle.card_format.specs.Card.{bytes_needed, card_of}

-- what writing gives: 0 and the length of the card, or the number of the refusal and nothing else
pub record Written : Type 0 where
  pub answer : ℕ
  pub length : ℕ

abbrev pub written_of : Result ℕ Refusal → Written
written_of (Ok l) = record { answer = 0; length = l }
written_of (Err r) = record { answer = refusal_number r; length = 0 }

-- 14: "a lent buffer too short", "board and buffers as before"; else it "returns the needed length"
unfoldable pub written_to : Instance → (out : List ℕ) → Written
written_to s out =
    cond (ltb (length out) (bytes_needed s.n)) (record { answer = buffer_short; length = 0 }) (record { answer = 0; length = bytes_needed s.n })

-- "touches only the needed bytes"
unfoldable pub buffer_after : Instance → (out : List ℕ) → List ℕ
buffer_after s out = cond (ltb (length out) (bytes_needed s.n)) out (in_front (card_of s) out)

pub record CardWritten (s : Instance) (before after : List ℕ) (r : Written) : Type 0 where
  pub result : r ≡ written_to s before
  pub buffer : after ≡ buffer_after s before
