-- The walk ends by a pair, vertices left and then tails left, as one number (PairLaws). Settling a vertex has one more
-- than all its tails left, trying one those from it on. Settling's loop has done what the events of the tails below t
-- say. Assumes nothing.
use mathlib.Core.Path.{◌≡◌}
use Prim.Native.Nat.{◌+◌, ◌-◌, ◌≤◌}
use lib.ListN.{length, take}
use Rattle.base.specs.Lists.{join_below}
use Rattle.instance.specs.Limits.{max_tries}
use Rattle.instance.specs.Matrix.{matrix_instance}
use Rattle.enumeration.specs.Events.{tail_events}
use Rattle.backtracking.specs.Listing.{place_of, scan}
use Rattle.backtracking.proofs.PairLaws.{as_number}
use Rattle.backtracking.proofs.walk.+settle_try_tail.Given as goal

abbrev pub decreases-settle : goal.decreases-settle
decreases-settle l = as_number (l.n - l.v, l.n + 1)

abbrev pub decreases-try_tail : goal.decreases-try_tail
decreases-try_tail l = as_number (l.n - l.v, l.n - l.t)

abbrev pub invariant-settle-loop-t : goal.invariant-settle-loop-t
invariant-settle-loop-t l = (l.t ≤ l.n) × (length l.out ≡ length l.initial.out) × (l.p.trees + l.p.left ≤ max_tries + 1)
    × (place_of l.p l.out ≡ scan l.n (join_below l.t (tail_events (l.n - (l.v + 1)) l.v (matrix_instance l.n l.root l.budget l.m) (take l.v l.parents))) (place_of l.initial.p l.initial.out))
