-- The states of all cells, by a table of the usable arcs. Assumes nothing: these are definitions.
use Rattle.std.specs.Prelude.{◌≡◌, ◌&&◌, not, cond, List, ℕ, ◌*◌, ◌/◌, ◌%◌, ◌<◌, eqb, get_or}
use Rattle.base.specs.Bounded.{any_below, count_below}
use Rattle.base.specs.Lists.{tabulate}
use Rattle.instance.specs.Limits.{no_arc}
use Rattle.instance.specs.Instance.{cell, can_be_arc}
use Rattle.usable.specs.Table.{is_used}

-- the number of used arcs into each head below a bound
pub record Counts (used : List ℕ) (n : ℕ) (bound : ℕ) (counts : List ℕ) : Type 0 where
  pub at : (h : ℕ) → h < bound → get_or counts h 0 ≡ count_below n (λ g. is_used used g h)

-- the state of a cell by a table: 0 no arc, 1 not used, 3 the only used one into its head, 2 one of several
unfoldable pub state_by : (used weights : List ℕ) → (n root : ℕ) → (tail head : ℕ) → ℕ
state_by us ws n r t h =
    cond (can_be_arc n r t h && not (eqb (get_or ws (cell t h) 0) no_arc))
    (cond (is_used us t h) (cond (any_below n (λ g. not (eqb g t) && is_used us g h)) 2 3) 1) 0

-- "n times n bytes, feeder by feeder"
abbrev pub states_by : (used weights : List ℕ) → (n root : ℕ) → List ℕ
states_by us ws n r = tabulate (n * n) (λ i. state_by us ws n r (i / n) (i % n))
