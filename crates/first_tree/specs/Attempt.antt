-- Attempts to have a tail: what each test says. Assumes nothing: these are definitions.
use Rattle.std.specs.Prelude.{◌≡◌, Bool, true, List, ℕ, ◌≤◌, length, take}
use Rattle.instance.specs.Limits.{max_vertices}
use Rattle.instance.specs.Instance.{Instance, weight}
use Rattle.instance.specs.Arborescence.{parent, is_arborescence, total}
use Rattle.instance.specs.Matrix.{unmarked}
use Rattle.paths.specs.Paths.{Descends, Avoids}
use Rattle.narrowing.specs.Narrowed.{OfTotal, Agree, Admissible}
use Rattle.first_tree.specs.Tails.{admissible_by}

-- in every tree that begins like this one below v, the path from t meets v
abbrev pub LeadsBack : (parents : List ℕ) → (t v : ℕ) → Type 0
LeadsBack ps t v = (qs : List ℕ) → Agree v ps qs → Descends qs v t

-- v can take the tail t in place of its own, at the same price
pub record Exchangeable (m : List ℕ) (n root : ℕ) (parents : List ℕ) (t v : ℕ) : Type 0 where
  pub same : weight (unmarked n root m) t v ≡ weight (unmarked n root m) (parent parents v) v
  pub apart : Avoids parents v t

-- no arborescence costs less
abbrev pub NoCheaper : Instance → (w : ℕ) → Type 0
NoCheaper s w = (qs : List ℕ) → is_arborescence s qs ≡ true → w ≤ total s qs

-- an arborescence of total w that passes a test
pub record AdmissibleTree (s : Instance) (w : ℕ) (keep : (tail head : ℕ) → Bool) (parents : List ℕ) : Type 0 where
  pub places : length parents ≡ max_vertices
  pub tree : OfTotal s w (take s.n parents)
  pub admissible : Admissible s keep (take s.n parents)

-- there is none
abbrev pub NoneAdmissible : Instance → (w : ℕ) → (keep : (tail head : ℕ) → Bool) → Type 0
NoneAdmissible s w keep = (qs : List ℕ) → OfTotal s w qs → Admissible s keep qs → ⊥

-- an admissible one that has the arc from t to v
pub record TreeWith (m : List ℕ) (n root w v : ℕ) (tails : List ℕ) (t : ℕ) (others : List ℕ) : Type 0 where
  pub places : length others ≡ max_vertices
  pub tree : OfTotal (unmarked n root m) w (take n others)
  pub admissible : Admissible (unmarked n root m) (admissible_by tails) (take n others)
  pub has_tail : parent (take n others) v ≡ t
