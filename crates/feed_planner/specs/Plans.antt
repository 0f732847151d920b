-- A plan made elsewhere, checked for a card, and all plans of a card. Assumes nothing: these are definitions.
use Rattle.std.specs.Prelude.{◌≡◌, cond, List, ℕ, eqb, length}
use Rattle.base.specs.Lists.{in_front}
use Rattle.instance.specs.Refusals.{bad_try_limit}
use Rattle.certificate.specs.Certificate.{certificate_refusal}
use Rattle.enumeration.specs.Walk.{limit_refused, Walked, walked, joined}
use Rattle.history_format.specs.HistoryCard.{open_refusal, model_in}
use Rattle.planner.specs.Enumerating.{Listing, Refused, list_answer, listed_as}
use Rattle.feed_planner.specs.Words.{Words, listing_words}

-- the card's refusal, then that of the plan
abbrev pub check_number : (card parents : List ℕ) → (total count : ℕ) → (words : List ℕ) → ℕ
check_number ws ps v k cs = cond (eqb (open_refusal ws) 0) (certificate_refusal (model_in ws).instance ps v k cs) (open_refusal ws)

-- the walk of a card with this limit, in a buffer with so much room
abbrev pub card_walked : (card : List ℕ) → (limit : ℕ) → (out : List ℕ) → Walked
card_walked ws limit out = walked (model_in ws).instance limit (length out)

-- the card's refusal, then 26, then what the walk gave
abbrev pub listing_of : (card : List ℕ) → (limit : ℕ) → (out : List ℕ) → Listing
listing_of ws limit out =
    cond (eqb (open_refusal ws) 0) (cond (limit_refused limit) (Refused bad_try_limit) (listed_as (card_walked ws limit out))) (Refused (open_refusal ws))

pub record StoresListing (ws : List ℕ) (limit : ℕ) (out out' : List ℕ) (old new : Words) (answer : ℕ) : Type 0 where
  pub number : answer ≡ list_answer (listing_of ws limit out)
  pub buffer : out' ≡ cond (eqb answer 0) (in_front (joined (card_walked ws limit out).trees) out) out
  pub words : new ≡ listing_words (listing_of ws limit out) old
