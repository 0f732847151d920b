-- The line feeds of the bytes that were passed are counted. Assumes nothing.
use mathlib.Core.Path.{◌≡◌}
use Prim.Native.Nat.{◌≤◌}
use lib.ListN.{length}
use Rattle.print_card.specs.Judge.{line_feeds}
use Rattle.print_card.proofs.judge.line_feeds.Given as goal

abbrev pub invariant-loop-k : goal.invariant-loop-k
invariant-loop-k l = (l.k ≤ length l.text) × (l.count ≤ l.k) × (l.count ≡ line_feeds l.k l.text)
