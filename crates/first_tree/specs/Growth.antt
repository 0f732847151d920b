-- A tree grown from the root, as a program holds it: the vertices that are reached as a set, their parents in 32
-- places, and the sets of tails, from which goes out what cannot stand beside the arcs taken. Assumes nothing: these
-- are definitions.
use Rattle.std.specs.Prelude.{◌≡◌, true, false, List, ℕ, ◌^◌, ◌≤◌, ◌<◌, length, get_or, take}
use Rattle.std.specs.Int.Bits.{bit_and}
use Rattle.instance.specs.Limits.{max_vertices, max_cuts}
use Rattle.instance.specs.Cuts.{inside}
use Rattle.narrowing.specs.Grown.{Grown}
use Rattle.first_tree.specs.Tails.{admissible_by}

-- what the program holds is in range, and so are the cuts that are looked at
pub record InRange (n from count : ℕ) (now : List ℕ) (reached : ℕ) (parents : List ℕ) : Type 0 where
  pub small : n ≤ max_vertices
  pub from_within : from ≤ count
  pub few : count ≤ max_cuts
  pub size : length now ≡ max_vertices
  pub below : reached < 2 ^ n
  pub places : length parents ≡ max_vertices

-- A tree as it grows, from the sets of tails at first to those as they are now. Where no cut is looked at, the set of a
-- vertex that is not reached is as it was.
pub record Growing (n root from count : ℕ) (tails now : List ℕ) (reached : ℕ) (parents : List ℕ) : Type 0 where
  pub less : (t h : ℕ) → admissible_by now t h ≡ true → admissible_by tails t h ≡ true
  pub others : from ≡ count → (h : ℕ) → inside reached h ≡ false → get_or now h 0 ≡ get_or tails h 0
  pub grown : Grown n root (admissible_by tails) (inside reached) (take n parents)

-- where no cut is looked at, and no more than `before` is reached by now: no arc leads on to a vertex from low to below
-- high
abbrev pub NothingNew : (from count low high : ℕ) → (tails : List ℕ) → (before reached : ℕ) → Type 0
NothingNew from count low high tails before reached =
    from ≡ count → reached ≡ before → (h : ℕ) → low ≤ h → h < high → inside reached h ≡ false → bit_and (get_or tails h 0) reached ≡ 0

-- the vertices from low to below high looked at once: each tree that grew so far has grown on
pub record Grows (n from count low high : ℕ) (old now : List ℕ) (before reached : ℕ) (parents parents' : List ℕ) : Type 0 where
  pub in_range : InRange n from count now reached parents'
  pub least : before ≤ reached
  pub growing : (root : ℕ) (tails : List ℕ) → Growing n root from count tails old before parents → Growing n root from count tails now reached parents'
  pub nothing_new : (root : ℕ) (tails : List ℕ) → Growing n root from count tails old before parents → NothingNew from count low high tails before reached

-- THE TREE, and, where no cut is looked at, that arcs lead to no other vertex
pub record GrownTree (n root from count : ℕ) (tails : List ℕ) (reached : ℕ) (parents : List ℕ) : Type 0 where
  pub places : length parents ≡ max_vertices
  pub grown : Grown n root (admissible_by tails) (inside reached) (take n parents)
  pub stays_within : from ≡ count → (t h : ℕ) → h < n → admissible_by tails t h ≡ true → inside reached t ≡ true → inside reached h ≡ true
