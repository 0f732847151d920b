-- `arc_heads` has gathered the heads below `head` that have an arc. Assumes nothing.
use mathlib.Core.Path.{◌≡◌}
use mathlib.Core.Bool.{cond}
use Prim.Native.Nat.{◌≤◌}
use Rattle.base.specs.Digits.{from_digits}
use Rattle.instance.specs.Limits.{max_vertices}
use Rattle.instance.specs.Matrix.{unmarked}
use Rattle.commands.specs.Heads.{names_arc}
use Rattle.heads.proofs.arcs.arc_heads.Given as goal

abbrev pub invariant-loop-head : goal.invariant-loop-head
invariant-loop-head l =
    (l.head ≤ max_vertices) × (l.arcs ≡ from_digits 2 l.head (λ v. cond (names_arc (unmarked l.n l.root l.weights) l.tail l.heads v) 1 0))
