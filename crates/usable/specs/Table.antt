-- Tables of arcs: 1 at the cell of an arc that is used, another number elsewhere. Assumes nothing: these are
-- definitions.
use Rattle.std.specs.Prelude.{◌≡◌, Bool, ◌&&◌, not, cond, List, ℕ, ◌/◌, ◌%◌, ◌<◌, ltb, eqb, length, get_or}
use Rattle.instance.specs.Limits.{cells}
use Rattle.instance.specs.Instance.{Instance, cell}
use Rattle.instance.specs.Arborescence.{uses}
use Rattle.theory.specs.Usable.{usable}

abbrev pub is_used : (used : List ℕ) → (tail head : ℕ) → Bool
is_used us t h = eqb (get_or us (cell t h) 0) 1

-- a table says which arcs some fitting arborescence uses
pub record UsableTable (s : Instance) (used : List ℕ) : Type 0 where
  pub exact : (t h : ℕ) → t < s.n → h < s.n → is_used used t h ≡ usable s t h

-- the arcs of an arborescence into the heads below a bound
unfoldable pub in_tree : (bound root : ℕ) → (parents : List ℕ) → (tail head : ℕ) → Bool
in_tree b r ps t h = (ltb h b && not (eqb h r)) && uses ps t h

-- they are added to a table
pub record TreeAdded (parents : List ℕ) (bound root : ℕ) (before after : List ℕ) : Type 0 where
  pub size : length after ≡ length before
  pub at : (i : ℕ) → i < cells → get_or after i 0 ≡ cond (in_tree bound root parents (i / 32) (i % 32)) 1 (get_or before i 0)
