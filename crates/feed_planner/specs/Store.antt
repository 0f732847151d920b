-- Bytes put into the caller's buffer and their length into a word of the caller's: what every function that writes a
-- card or a text promises. Assumes nothing: these are definitions.
use Rattle.std.specs.Prelude.{◌≡◌, cond, List, ℕ, ltb, eqb, length}
use Rattle.base.specs.Lists.{in_front}
use Rattle.instance.specs.Refusals.{buffer_short}

-- a word that is set where a call is accepted: "second results go through a lent word", and "refused, every lent buffer
-- is as it was"
abbrev pub kept : (answer new old : ℕ) → ℕ
kept a v w = cond (eqb a 0) v w

-- a call that answers a number and has put so many bytes in front of a buffer where it is 0
pub record Tells (told size : ℕ) (bytes out out' : List ℕ) (held held' answer : ℕ) : Type 0 where
  pub number : answer ≡ told
  pub buffer : out' ≡ cond (eqb answer 0) (in_front bytes out) out
  pub word : held' ≡ kept answer size held

-- the same by the number that refuses what was handed in (0 if none does) and the room that is needed: 14 comes last
abbrev pub Stores : (refusal needed : ℕ) → (bytes out out' : List ℕ) → (held held' answer : ℕ) → Type 0
Stores k m bytes out out' w w' a = Tells (cond (eqb k 0) (cond (ltb (length out) m) buffer_short 0) k) (length bytes) bytes out out' w w' a
