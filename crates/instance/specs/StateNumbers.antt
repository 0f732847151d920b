-- The states of arcs and edges as the program has them, an enum, by their numbers. Assumes nothing: these are
-- definitions.
use Rattle.std.specs.Prelude.{ℕ}
use Rattle.instance.specs.declared.states.State.{State}
use Rattle.instance.specs.declared.states.State.TheVariants.{Absent, Excluded, Optional, Mandatory}

-- "0 not a link; 1 closed, no tree uses it; 2 open, some use it and some don't; 3 sure, there is at least one tree and
-- all use it"
abbrev pub state_number : State → ℕ
state_number Absent = 0
state_number Excluded = 1
state_number Optional = 2
state_number Mandatory = 3
