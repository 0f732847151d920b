-- `read_marks` has read the marks of the heads below `head`. Assumes nothing.
use mathlib.Core.Path.{◌≡◌}
use mathlib.Core.Bool.{cond}
use mathlib.Core.List.{List}
use Prim.Native.Nat.{ℕ, ◌≤◌}
use lib.ListN.{get_or}
use Rattle.base.specs.Digits.{from_digits}
use Rattle.instance.specs.Limits.{max_vertices, free}
use Rattle.instance.specs.Instance.{cell}
use Rattle.instance.specs.Cuts.{inside}
use Rattle.heads.proofs.marks.read_marks.Given as goal

-- the mark of a head, if it is in the set
abbrev pub old_at : (marks : List ℕ) → (tail heads v : ℕ) → ℕ
old_at marks tail heads v = cond (inside heads v) (get_or marks (cell tail v) free) free

abbrev pub invariant-loop-head : goal.invariant-loop-head
invariant-loop-head l =
    (l.head ≤ max_vertices) × (l.value ≡ from_digits 4 l.head (old_at l.marks l.tail l.heads))
