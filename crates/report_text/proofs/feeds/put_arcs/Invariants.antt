-- The loop has written the lines of the vertices that it passed. Assumes nothing.
use mathlib.Core.Path.{◌≡◌}
use Prim.Native.Nat.{◌≤◌}
use lib.ListN.{length}
use Rattle.base.specs.Lists.{join_below}
use Rattle.report_text.specs.Feeds.{feed_at}
use Rattle.text.specs.Buffer.{Puts}
use Rattle.report_text.proofs.feeds.put_arcs.Given as goal

abbrev pub invariant-loop-v : goal.invariant-loop-v
invariant-loop-v l =
    Puts (join_below l.v (feed_at l.weights l.parents l.root)) l.initial.out l.out l.at l.next × (l.v ≤ l.n) × (length l.out ≡ length l.initial.out)
