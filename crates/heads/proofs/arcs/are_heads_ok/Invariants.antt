-- `are_heads_ok` is the definition: the heads below `head` decide what is left. Assumes nothing.
use mathlib.Core.Path.{◌≡◌}
use mathlib.Core.Bool.{Bool}
use mathlib.Core.List.{List}
use Prim.Native.Nat.{ℕ, ◌≤◌}
use lib.ListN.{get_or}
use Rattle.base.specs.Bounded.{all_below}
use Rattle.instance.specs.Limits.{max_vertices, free}
use Rattle.instance.specs.Matrix.{unmarked}
use Rattle.commands.specs.Valid.{head_ok}
use Rattle.heads.specs.RecordMarks.{record_marks}
use Rattle.heads.proofs.arcs.are_heads_ok.Given as goal

-- the test of one head
abbrev pub ok : (weights : List ℕ) → (n root tail heads old head : ℕ) → Bool
ok weights n root tail heads old head = head_ok (unmarked n root weights) tail heads (get_or (record_marks heads old) head free) head

abbrev pub invariant-loop-head : goal.invariant-loop-head
invariant-loop-head l =
    (l.head ≤ max_vertices) × (all_below max_vertices (ok l.weights l.n l.root l.tail l.heads l.old) ≡ all_below l.head (ok l.weights l.n l.root l.tail l.heads l.old))
