-- Paths from a vertex to its parent, on and on, in a list of parents. Assumes nothing: these are definitions.
use Rattle.std.specs.Prelude.{◌≡◌, true, false, List, ◌≢◌, ℕ, ◌<◌, eqb, length}
use Rattle.instance.specs.Limits.{no_parent}
use Rattle.instance.specs.Arborescence.{parent, reaches}

-- what a path needs of an arborescence: every vertex has a parent below n, and its path meets the root
pub record Rooted (n root : ℕ) (ps : List ℕ) : Type 0 where
  pub size : length ps ≡ n
  pub root_below : root < n
  pub at_root : parent ps root ≡ no_parent
  pub below : (v : ℕ) → v < n → eqb v root ≡ false → parent ps v < n
  pub reach : (v : ℕ) → v < n → reaches n root ps v ≡ true

-- v is a descendant of h, as h is itself: the path from v meets h
abbrev pub Descends : (parents : List ℕ) → (h v : ℕ) → Type 0
Descends ps h v = (k : ℕ) × (reaches k h ps v ≡ true)

-- v is none: the path from v never meets h
abbrev pub Avoids : (parents : List ℕ) → (h v : ℕ) → Type 0
Avoids ps h v = (k : ℕ) → reaches k h ps v ≡ false

-- the path from t comes to v, and h is not met before v
pub data OnPath (ps : List ℕ) (t h : ℕ) : ℕ → Type 0 where
  start : OnPath ps t h t
  onward : {v : ℕ} → OnPath ps t h v → v ≢ h → OnPath ps t h (parent ps v)
