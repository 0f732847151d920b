-- The places that were passed are written, and the others are as they were. Assumes nothing.
use mathlib.Core.Path.{refl, ◌∙◌}
use native.Mathlib.Omega.{arith}
use lib.ListN.{length-set}
use Rattle.base.proofs.FrontLaws.{front_none, front_more}
use Rattle.runs.specs.Show.{closed_state}
use Rattle.runs.proofs.show.write_closed.Goals as goal

pub loop-k-init : goal.loop-k-init
loop-k-init c = let a = c.args in (refl, front_none (closed_state a.weights.now a.n) a.states.now)

pub loop-k-preserved : goal.loop-k-preserved
loop-k-preserved c =
    let a = c.args in
    let l = c.loop-k in
    let size = l.invariant.0 in
    (simp length-set size, front_more l.states a.states.now l.k c.from.result (closed_state a.weights.now a.n) (omega arith) l.invariant.1 (c.from.ensures ∙ c.closed_state.ensures))
