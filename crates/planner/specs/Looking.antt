-- What a look yields. Unique, and so an equation: the outcome with its total, the parents, the states, every refusal,
-- and all that stands after the filled places. Free, with what holds of them: the cuts and how many they are, the set
-- that no arc enters; they are named here, and their buffer is an equation with them. Assumes nothing: these are
-- definitions.
use Rattle.std.specs.Prelude.{◌≡◌, Bool, true, false, ◌||◌, List, ℕ, ◌*◌, ltb, length}
use Rattle.base.specs.Lists.{in_front}
use Rattle.instance.specs.Limits.{cut_words}
use Rattle.instance.specs.Refusals.{buffer_short, invalid_board}
use Rattle.instance.specs.Instance.{Instance}
use Rattle.instance.specs.Candidates.{first_tree}
use Rattle.instance.specs.States.{outcome, states}
use Rattle.instance.specs.Cuts.{Cut, words_of}
use Rattle.commands.specs.Valid.{valid}
use Rattle.board.specs.ModelOf.{model_of, instance_of}
use Rattle.board.specs.declared.Board.{Board}
use Rattle.survey.specs.FirstPlan.{CutsShown}
use Rattle.planner.specs.declared.View.{View}
use Rattle.planner.specs.declared.View.TheVariants.{Shown, Refused}

-- document 01's number for a look: 0, or the refusal's
abbrev pub answer_of : View → ℕ
answer_of (Shown o k) = 0
answer_of (Refused a) = a

-- THE BUFFERS
pub record Buffers : Type 0 where
  pub parents : List ℕ
  pub states : List ℕ
  pub cuts : List ℕ

abbrev pub buffers : (parents states cuts : List ℕ) → Buffers
buffers ps ss cs = record { parents = ps; states = ss; cuts = cs }

-- "at least n bytes for feeders, n times n bytes for states, and 122 32-bit words for cuts"
unfoldable pub too_short : (n parents states cuts : ℕ) → Bool
too_short n a b c = ltb a n || (ltb b (n * n) || ltb c cut_words)

abbrev pub short_for : (n : ℕ) → Buffers → Bool
short_for n x = too_short n (length x.parents) (length x.states) (length x.cuts)

-- A look at an instance: the buffers before and after, and the result. "plan with its total; over with the cheapest
-- total; none"; "the number of pairs is in the result"; "the first n bytes", "the first n times n bytes, feeder by
-- feeder", "the first 122 words", and "bytes and words after those keep their contents".
pub record Shows (s : Instance) (old new : Buffers) (r : View) : Type 0 where
  pub cut_list : List Cut
  pub result : r ≡ Shown (outcome s) (length cut_list)
  pub cuts_shown : CutsShown (outcome s) s cut_list
  -- "The tree is then no longer one of the free results; the cuts still are." (02, A10)
  pub parents_buffer : new.parents ≡ in_front (first_tree s) old.parents
  pub states_buffer : new.states ≡ in_front (states s) old.states
  pub cuts_buffer : new.cuts ≡ in_front (words_of cut_list) old.cuts

-- a refusal: "board and buffers as before"
pub record Untouched (answer : ℕ) (old new : Buffers) (r : View) : Type 0 where
  pub result : r ≡ Refused answer
  pub buffers : new ≡ old

-- "On a board, 15 comes first; then .. 14 for looks and writes."
unfoldable pub LooksAt : (valid short : Bool) → Instance → (old new : Buffers) → View → Type 0
LooksAt false short s old new r = Untouched invalid_board old new r
LooksAt true true s old new r = Untouched buffer_short old new r
LooksAt true false s old new r = Shows s old new r

-- at a valid board with this instance
abbrev pub LooksValid : Instance → (old new : Buffers) → View → Type 0
LooksValid s old new r = LooksAt true (short_for s.n old) s old new r

unfoldable pub Looks : Board → (old new : Buffers) → View → Type 0
Looks b old new r = LooksAt (valid (model_of b)) (short_for b.n old) (instance_of b) old new r
