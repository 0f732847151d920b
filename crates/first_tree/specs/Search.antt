-- What the search for the first cheapest arborescence starts from, keeps and gives, on a weight matrix. Assumes
-- nothing: these are definitions.
use Rattle.std.specs.Prelude.{◌≡◌, true, List, ℕ, ◌≤◌, length, get_or, take}
use Rattle.instance.specs.Limits.{max_vertices, max_cuts, cells}
use Rattle.instance.specs.Instance.{cell}
use Rattle.instance.specs.Arborescence.{remaining, parent}
use Rattle.instance.specs.Cuts.{cuts_in, Proves, reduced_cost}
use Rattle.instance.specs.Matrix.{unmarked, MatrixOk}
use Rattle.narrowing.specs.Narrowed.{OfTotal, Narrowed, NoneBelow}
use Rattle.first_tree.specs.Tails.{admissible_by, TailsOk}

-- a matrix with its cheapest total w and the cuts that prove it, of which those from a place on are looked at
pub record Search (m cuts : List ℕ) (n root w from count : ℕ) : Type 0 where
  pub matrix_ok : MatrixOk n root m
  pub proves : Proves (unmarked n root m) (cuts_in count cuts) w
  pub from_within : from ≤ count
  pub few : count ≤ max_cuts

-- a cheapest arborescence in 32 places, and the reduced costs
pub record PlannedTree (m reduced cuts : List ℕ) (n root w count : ℕ) (parents : List ℕ) : Type 0 where
  pub places : length parents ≡ max_vertices
  pub tree : OfTotal (unmarked n root m) w (take n parents)
  pub size : length reduced ≡ cells
  pub costs : (t h : ℕ) → remaining (unmarked n root m) t h ≡ true → get_or reduced (cell t h) 0 ≡ reduced_cost (unmarked n root m) (cuts_in count cuts) t h

-- the vertices below v are settled, with that tree at hand
pub record Settled (m : List ℕ) (n root w v : ℕ) (tails parents : List ℕ) : Type 0 where
  pub places : length parents ≡ max_vertices
  pub tails_ok : TailsOk (unmarked n root m) tails
  pub narrowed : Narrowed (unmarked n root m) w v (admissible_by tails) (take n parents)

-- no tail below the parent of v can be had
abbrev pub LeastParent : (m : List ℕ) → (n root w v : ℕ) → (parents : List ℕ) → Type 0
LeastParent m n root w v ps = NoneBelow (unmarked n root m) w v (take n ps) (parent (take n ps) v)
