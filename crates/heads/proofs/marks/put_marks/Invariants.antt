-- `put_marks` has put the marks of the heads below `head`. Assumes nothing.
use mathlib.Core.Path.{◌≡◌}
use Prim.Native.Nat.{◌≤◌}
use Rattle.base.specs.Digits.{digit}
use Rattle.instance.specs.Limits.{max_vertices}
use Rattle.instance.specs.Cuts.{inside}
use Rattle.commands.specs.Heads.{put_marks}
use Rattle.heads.proofs.LoopLaws.{heads_to}
use Rattle.heads.proofs.marks.put_marks.Given as goal

abbrev pub invariant-loop-head : goal.invariant-loop-head
invariant-loop-head l = (l.head ≤ max_vertices) × (l.marks ≡ put_marks l.tail (heads_to (inside l.heads) l.head) (digit 4 l.new) l.initial.marks)
