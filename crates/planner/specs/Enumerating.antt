-- What a listing of all plans gives (02, A7), as equations: how it ended, how many trees stand in the buffer, how many
-- tries were made, and the whole buffer. Assumes nothing: these are definitions.
use Rattle.std.specs.Prelude.{◌≡◌, cond, List, ℕ, Result, Ok, Err, length}
use Rattle.base.specs.Lists.{in_front}
use Rattle.instance.specs.RefusalNumbers.{refusal_number}
use Rattle.instance.specs.declared.refusals.Refusal.{Refusal}
use Rattle.instance.specs.Refusals.{invalid_board, bad_try_limit}
use Rattle.enumeration.specs.declared.Ended.{Ended}
use Rattle.enumeration.specs.Walk.{limit_refused, Walked, walked, joined}
use Rattle.commands.specs.Valid.{valid}
use Rattle.board.specs.ModelOf.{model_of, instance_of}
use Rattle.board.specs.declared.Board.{Board}
use Rattle.planner.specs.declared.Listing as listing

-- how a listing ended, how many trees it has and how many tries were made; or the number of a refusal
pub data Listing : Type 0 where
  Listed : Ended → (trees tries : ℕ) → Listing
  Refused : (number : ℕ) → Listing

abbrev pub listing_from : Result listing.Listing Refusal → Listing
listing_from (Ok l) = Listed l.ended l.trees l.tries
listing_from (Err r) = Refused (refusal_number r)

-- document 02's number for a listing: 0, or the refusal's
abbrev pub list_answer : Listing → ℕ
list_answer (Listed e k t) = 0
list_answer (Refused a) = a

-- the walk of a board with this limit, in a buffer with so much room
abbrev pub walked_on : Board → (limit : ℕ) → (out : List ℕ) → Walked
walked_on b limit out = walked (instance_of b) limit (length out)

abbrev pub listed_as : Walked → Listing
listed_as w = Listed w.ended (length w.trees) w.tries

-- "Answers: 15, then 26 for a try limit of 0 or above 1,000,000; a short buffer only ends the walk." The trees stand
-- one after the other in front, and "Later bytes keep their contents."
pub record Lists (b : Board) (limit : ℕ) (out out' : List ℕ) (r : Listing) : Type 0 where
  pub result :
      r ≡ cond (valid (model_of b)) (cond (limit_refused limit) (Refused bad_try_limit) (listed_as (walked_on b limit out))) (Refused invalid_board)
  pub buffer :
      out' ≡ cond (valid (model_of b)) (cond (limit_refused limit) out (in_front (joined (walked_on b limit out).trees) out)) out
