-- The loop makes one call after the other; what it keeps is told by `CallsMade`. Assumes nothing.
use Rattle.planner.specs.Looking.{buffers}
use Rattle.planner.proofs.ReplayingLaws.{CallsMade}
use Rattle.planner.proofs.replaying.replay.Given as goal

abbrev pub invariant-loop-i : goal.invariant-loop-i
invariant-loop-i l =
    CallsMade l.bytes l.kinds l.firsts l.seconds l.initial.answers (buffers l.initial.parents l.initial.states l.initial.cuts) l.b l.i l.answers (buffers l.parents l.states l.cuts)
