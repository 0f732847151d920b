-- What it costs to make a tree use an arc, by exchanging one or two of its arcs. Assumes nothing: these are
-- definitions.
use Rattle.std.specs.Prelude.{◌≡◌, true, List, ◌≢◌, ℕ, ◌<◌, get_or}
use Rattle.instance.specs.Limits.{no_arc}
use Rattle.instance.specs.Instance.{Instance}
use Rattle.instance.specs.Arborescence.{remaining}
use Rattle.paths.specs.Paths.{OnPath}
use Rattle.paths.specs.Exchange.{Exchange}

-- d is the cost of a detour for the arc from t to h, or "no arc" where none was found
pub record Detour (s : Instance) (parents : List ℕ) (t h d : ℕ) : Type 0 where
  pub exchange : remaining s t h ≡ true → d < no_arc → Exchange s parents t h d

-- the least number in a table on the path from t to h
pub record PathLeast (parents table : List ℕ) (t h least : ℕ) : Type 0 where
  pub at : least < no_arc → (k : ℕ) × OnPath parents t h k × (k ≢ h) × (get_or table k 0 ≡ least)

pub record Detours (s : Instance) (parents : List ℕ) (h bound : ℕ) (table : List ℕ) : Type 0 where
  pub at : (t : ℕ) → t < bound → Detour s parents t h (get_or table t 0)
