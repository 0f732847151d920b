-- The loop has written the vertices that it passed. Assumes nothing.
use mathlib.Core.Path.{◌≡◌}
use Prim.Native.Nat.{◌≤◌}
use lib.ListN.{length}
use Rattle.base.specs.Lists.{join_below}
use Rattle.text.specs.Buffer.{Puts}
use Rattle.why_text.specs.Cut.{member_text}
use Rattle.why_text.proofs.cut.put_members.Given as goal

abbrev pub invariant-loop-v : goal.invariant-loop-v
invariant-loop-v l =
    Puts (join_below l.v (member_text l.set)) l.initial.out l.out l.at l.next × (l.v ≤ l.n) × (length l.out ≡ length l.initial.out)
