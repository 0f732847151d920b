-- The edges of a tree that lie between two vertices, and those that leave a set of vertices. Assumes nothing: these are
-- definitions.
use Rattle.std.specs.Prelude.{◌≡◌, Bool, true, false, List, ◌⊎◌, ◌≢◌, ℕ, ◌<◌}
use Rattle.instance.specs.Arborescence.{parent}
use Rattle.paths.specs.Paths.{Descends, Avoids}

-- the edge from v to its parent lies on the tree's path between i and j: one of them is a descendant of v
abbrev pub Separates : (parents : List ℕ) → (v i j : ℕ) → Type 0
Separates ps v i j = (Descends ps v i × Avoids ps v j) ⊎ (Avoids ps v i × Descends ps v j)

-- h is the last vertex in a set on the path from v to a: its parent is outside
pub record Leaves (n root : ℕ) (parents : List ℕ) (D : ℕ → Bool) (a v : ℕ) : Type 0 where
  pub h : ℕ
  pub below : h < n
  pub apart : h ≢ root
  pub under : Descends parents h v
  pub above : Descends parents a (parent parents h)
  pub inside : D h ≡ true
  pub outside : D (parent parents h) ≡ false

-- where the paths from i and j to the root meet first
pub record Meet (n : ℕ) (parents : List ℕ) (i j : ℕ) : Type 0 where
  pub at : ℕ
  pub below : at < n
  pub from_i : Descends parents at i
  pub from_j : Descends parents at j
  pub lowest : (x : ℕ) → Descends parents x i → Descends parents x j → Descends parents x at

-- an edge on the path between i and j that has one end in a set: from v, which has i or j below it, to its parent
pub record Crosses (n root : ℕ) (parents : List ℕ) (D : ℕ → Bool) (i j : ℕ) : Type 0 where
  pub v : ℕ
  pub below : v < n
  pub apart : v ≢ root
  pub side :
      (Descends parents v i × Avoids parents v j × (D v ≡ true) × (D (parent parents v) ≡ false))
      ⊎ (Avoids parents v i × Descends parents v j × (D v ≡ false) × (D (parent parents v) ≡ true))
