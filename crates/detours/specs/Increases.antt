-- What it costs at least to give a vertex a parent from outside a table, which has true at its inner vertices.
-- Assumes nothing: these are definitions.
use Rattle.std.specs.Prelude.{◌≡◌, Bool, false, List, ℕ, ◌+◌, ◌≤◌, ◌<◌, get_or}
use Rattle.instance.specs.Limits.{no_arc}
use Rattle.instance.specs.Instance.{cell}
use Rattle.instance.specs.Arborescence.{parent}

-- the least weight into k from a tail outside; "no arc" where there is none
pub record LeastOutside (m : List ℕ) (inner : List Bool) (bound k least : ℕ) : Type 0 where
  pub most : least ≤ no_arc
  pub tail : least < no_arc → (x : ℕ) × (x < bound) × (get_or inner x false ≡ false) × (get_or m (cell x k) 0 ≡ least)

-- d is what such a tail adds to the weight of k's own arc
pub record Increase (m parents : List ℕ) (inner : List Bool) (n k d : ℕ) : Type 0 where
  pub tail : d < no_arc → (x : ℕ) × (x < n) × (get_or inner x false ≡ false) × (get_or m (cell x k) 0 < no_arc) × (get_or m (cell x k) 0 ≤ get_or m (cell (parent parents k) k) 0 + d)

pub record Increases (m parents : List ℕ) (inner : List Bool) (n bound : ℕ) (table : List ℕ) : Type 0 where
  pub at : (k : ℕ) → k < bound → Increase m parents inner n k (get_or table k 0)
