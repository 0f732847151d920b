-- What a function that writes text into a caller's buffer leaves there. Assumes nothing: these are definitions.
--
-- The kit's `lib.Seq.paste` does not serve: it copies the first n of a list, so that a whole text t would stand in it
-- as `take (length t) t`, and its laws follow one copying loop, where texts here are put one behind the other.
use Rattle.std.specs.Prelude.{◌≡◌, List, ◌++◌, ℕ, ◌+◌, ◌≤◌, length, take, drop}
use Rattle.base.specs.Lists.{in_front}

-- a buffer has room for a text from `at` on
pub record Room (text buffer : List ℕ) (at : ℕ) : Type 0 where
  pub long_enough : at + length text ≤ length buffer

-- a buffer with a text in the place of its own bytes from `at` on
unfoldable pub placed : (text old : List ℕ) → (at : ℕ) → List ℕ
placed t old at = take at old ++ in_front t (drop at old)

-- the whole buffer after a text was put there, and the place after the text
pub record Puts (text old new : List ℕ) (at next : ℕ) : Type 0 where
  pub buffer : new ≡ placed text old at
  pub place : next ≡ at + length text

-- the same from the buffer's beginning on
pub record Filled (text old new : List ℕ) (next : ℕ) : Type 0 where
  pub buffer : new ≡ in_front text old
  pub place : next ≡ length text
