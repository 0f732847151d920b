-- The sets of tails when an arc has been fixed. Assumes nothing: these are definitions.
use Rattle.std.specs.Prelude.{◌≡◌, true, cond, List, ◌≢◌, ℕ, ◌≤◌, ◌<◌, length, get_or}
use Rattle.std.specs.Int.Bits.{bit_and}
use Rattle.instance.specs.Limits.{max_vertices}
use Rattle.instance.specs.Cuts.{inside, cuts_in}
use Rattle.narrowing.specs.Narrowed.{Fixed}
use Rattle.first_tree.specs.Tails.{admissible_by}

-- into the vertices of a set below a bound only arcs from the set stay admissible
pub record Within (bound set : ℕ) (old new : List ℕ) : Type 0 where
  pub size : length new ≡ max_vertices
  pub done : (h : ℕ) → h < bound → get_or new h 0 ≡ cond (inside set h) (bit_and (get_or old h 0) set) (get_or old h 0)
  pub rest : (h : ℕ) → bound ≤ h → get_or new h 0 ≡ get_or old h 0

-- the arc from t to v fixed, by the cuts from a place on; where none is looked at, no other set changes
pub record FixedTails (cuts : List ℕ) (n from count t v : ℕ) (old new : List ℕ) : Type 0 where
  pub size : length new ≡ max_vertices
  pub less : (g h : ℕ) → admissible_by new g h ≡ true → admissible_by old g h ≡ true
  pub fixed : Fixed n (cuts_in count cuts) (admissible_by old) (admissible_by new) t v
  pub others : from ≡ count → (h : ℕ) → h ≢ v → get_or new h 0 ≡ get_or old h 0
