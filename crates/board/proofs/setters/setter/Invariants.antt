-- The records are passed from the latest down. The invariant: the first k records decide. Assumes nothing.
use mathlib.Core.Path.{◌≡◌}
use Prim.Native.Nat.{◌≤◌}
use Rattle.instance.specs.Limits.{max_records}
use Rattle.commands.specs.Setters as definitions
use Rattle.board.specs.ModelOf.{history_of}
use Rattle.board.proofs.setters.setter.Given as goal

abbrev pub invariant-loop-k : goal.invariant-loop-k
invariant-loop-k l =
    (l.k ≤ max_records) × (definitions.setter (history_of l.b.count l.b.records) l.tail l.head ≡ definitions.setter (history_of l.k l.b.records) l.tail l.head)
