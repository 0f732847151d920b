-- Expanding a cycle, and the arcs where there is none to expand: what the functions give. Assumes nothing: these are
-- definitions.
use Rattle.std.specs.Prelude.{◌≡◌, true, List, ℕ, ◌<◌, length}
use Rattle.instance.specs.Limits.{max_vertices}
use Rattle.contraction.specs.Cells.{nth}
use Rattle.contraction.specs.Groups.{expanded, own_arcs}
use Rattle.contraction.specs.Search.{on_cycle}

pub record OwnArcs (ls tails heads : List ℕ) (n root : ℕ) (r : List ℕ) : Type 0 where
  pub size : length r ≡ max_vertices
  pub is : (v : ℕ) → v < n → nth r v ≡ own_arcs root (nth ls) (nth tails) (nth heads) v

-- a vertex of the cycle at v that a chosen arc enters
pub record CycleEntry (ls stamp ps : List ℕ) (n v e : ℕ) : Type 0 where
  pub below : e < n
  pub on : on_cycle (nth stamp) v (nth ls e) ≡ true
  pub has : nth ps e < n

abbrev pub CycleEntered : (ls stamp ps : List ℕ) (n v : ℕ) → Type 0
CycleEntered ls stamp ps n v = (e : ℕ) × CycleEntry ls stamp ps n v e

-- each group of the cycle but the one entered at e takes its own arc
pub record Expanded (ls stamp tails heads : List ℕ) (n v e : ℕ) (ps ps' : List ℕ) : Type 0 where
  pub size : length ps' ≡ max_vertices
  pub is : (u : ℕ) → u < n → nth ps' u ≡ expanded (nth ls) (nth tails) (nth heads) (on_cycle (nth stamp) v) (nth ls e) (nth ps) u

-- the cycle is entered at some vertex, and expanded there
pub record Expansion (ls stamp tails heads : List ℕ) (n v : ℕ) (ps ps' : List ℕ) : Type 0 where
  pub at : ℕ
  pub entry : CycleEntry ls stamp ps n v at
  pub expanded : Expanded ls stamp tails heads n v at ps ps'
