-- The walk with its limit and its room (02, A7): which trees it lists, how many tries it makes, how it ends. Assumes
-- nothing: these are definitions.
use Rattle.std.specs.Prelude.{Bool, ◌||◌, cond, List, [], ◌∷◌, ◌++◌, ℕ, zero, suc, ◌-◌, leb, ltb, eqb}
use Rattle.instance.specs.Limits.{max_tries}
use Rattle.instance.specs.Instance.{Instance}
use Rattle.enumeration.specs.declared.Ended.{Ended}
use Rattle.enumeration.specs.declared.Ended.TheVariants.{Complete, AtLimit, NoRoom}
use Rattle.enumeration.specs.Events.{Event, tried, listed, events}

-- "26 for a try limit of 0 or above 1,000,000"
unfoldable pub limit_refused : (limit : ℕ) → Bool
limit_refused limit = eqb limit 0 || ltb max_tries limit

-- "The walk ends complete, at the try limit, or before the first tree without room ..; the result says which, and how
-- many trees stand in the buffer": the trees themselves, in order; and "the number of tries"
pub record Walked : Type 0 where
  pub ended : Ended
  pub trees : List (List ℕ)
  pub tries : ℕ

abbrev pub ended_by : Ended → Walked
ended_by e = record { ended = e; trees = []; tries = 0 }

-- a walk that has a try, or a tree, in front of it
abbrev pub after_try : Walked → Walked
after_try w = record { ended = w.ended; trees = w.trees; tries = suc w.tries }

abbrev pub after_tree : List ℕ → Walked → Walked
after_tree ps w = record { ended = w.ended; trees = ps ∷ w.trees; tries = w.tries }

-- with so many tries allowed and so many bytes of room. "The limit ends a walk only when one more try is due"; a tree
-- takes n bytes, and the walk ends "before the first tree without room, whose try is counted". Nothing comes after.
unfoldable pub walk : (n limit room : ℕ) → List Event → Walked
walk n limit room [] = ended_by Complete
walk n zero room (tried ∷ es) = ended_by AtLimit
walk n (suc k) room (tried ∷ es) = after_try (walk n k room es)
walk n limit room (listed ps ∷ es) = cond (leb n room) (after_tree ps (walk n limit (room - n) es)) (ended_by NoRoom)

unfoldable pub walked : Instance → (limit room : ℕ) → Walked
walked s limit room = walk s.n limit room (events s)

-- "into a lent buffer of n bytes a tree": one after the other
unfoldable pub joined : List (List ℕ) → List ℕ
joined [] = []
joined (ps ∷ pss) = ps ++ joined pss
