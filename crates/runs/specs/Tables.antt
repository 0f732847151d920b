-- Two tables of a tree: who is below whom, and what lies between any two vertices. Assumes nothing: these are
-- definitions.
use Rattle.std.specs.Prelude.{◌≡◌, Bool, true, false, ◌&&◌, not, List, ◌≢◌, ℕ, Option, None, Some, max, ◌+◌, ◌*◌, ◌≤◌, ◌<◌, length, get_or, take}
use Rattle.instance.specs.Limits.{max_vertices, cells}
use Rattle.instance.specs.Instance.{cell}
use Rattle.instance.specs.Arborescence.{reaches}
use Rattle.paths.specs.Paths.{Rooted}
use Rattle.spanning.specs.KeyTables.{greatest_between}

-- parents in the first n of 32 places
pub record Places (n : ℕ) (parents : List ℕ) : Type 0 where
  pub small : n ≤ max_vertices
  pub size : length parents ≡ max_vertices

-- of a tree from vertex 0
pub record Tree (n : ℕ) (parents : List ℕ) : Type 0 where
  pub places : Places n parents
  pub rooted : Rooted n 0 (take n parents)

abbrev pub is_done : (done : List Bool) → (v : ℕ) → Bool
is_done ds v = get_or ds v false

-- v is not done and its parent is
unfoldable pub is_ready : (parents : List ℕ) → (done : List Bool) → (v : ℕ) → Bool
is_ready ps ds v = not (is_done ds v) && is_done ds (get_or ps v 0)

-- such a vertex, or that there is none
abbrev pub Readied : (parents : List ℕ) → (done : List Bool) → (n : ℕ) → Option ℕ → Type 0
Readied ps ds n None = (w : ℕ) → w < n → w ≢ 0 → is_ready ps ds w ≡ false
Readied ps ds n (Some v) = (v < n) × (v ≢ 0) × (is_ready ps ds v ≡ true)

-- the column of v, from that of its parent
pub record ExtendsBelow (n v tail : ℕ) (old new : List Bool) : Type 0 where
  pub size : length new ≡ cells
  pub column : (y : ℕ) → y < n → y ≢ v → get_or new (32 * y + v) false ≡ get_or old (32 * y + tail) false
  pub own : get_or new (32 * v + v) false ≡ true
  pub others : (y x : ℕ) → x < max_vertices → x ≢ v → get_or new (32 * y + x) false ≡ get_or old (32 * y + x) false

-- the row and the column of v up to a bound, from the row of its parent
pub record ExtendsBetween (done : List Bool) (v tail key bound : ℕ) (old new : List ℕ) : Type 0 where
  pub size : length new ≡ cells
  pub row : (x : ℕ) → x < bound → is_done done x ≡ true → get_or new (cell v x) 0 ≡ max key (get_or old (cell tail x) 0)
  pub column : (x : ℕ) → x < bound → is_done done x ≡ true → get_or new (cell x v) 0 ≡ max key (get_or old (cell tail x) 0)
  pub own : get_or new (cell v v) 0 ≡ get_or old (cell v v) 0
  pub others : (x y : ℕ) → x < max_vertices → y < max_vertices → x ≢ v → y ≢ v → get_or new (cell x y) 0 ≡ get_or old (cell x y) 0

-- set in the row of v at its descendants
abbrev pub BelowTable : (n : ℕ) → (parents : List ℕ) → (below : List Bool) → Type 0
BelowTable n ps t = (v x : ℕ) → v < n → v ≢ 0 → x < n → get_or t (32 * v + x) false ≡ reaches n v (take n ps) x

abbrev pub BetweenTable : (keys : List ℕ) → (n : ℕ) → (parents between : List ℕ) → Type 0
BetweenTable ks n ps t = (x y : ℕ) → x < n → y < n → x ≢ y → get_or t (cell x y) 0 ≡ greatest_between ks n (take n ps) x y

pub record TablesOf (keys : List ℕ) (n : ℕ) (parents : List ℕ) (below : List Bool) (between : List ℕ) : Type 0 where
  pub below_is : BelowTable n parents below
  pub between_is : BetweenTable keys n parents between
