-- The diagonal and a place with no price have no state; any other is excluded. Assumes nothing.
use mathlib.Core.Logic.{inl, inr}
use Rattle.runs.proofs.ShowLaws.{closed_absent, closed_edge}
use Rattle.runs.proofs.show.closed_state.Goals as goal
use Rattle.runs.proofs.show.closed_state.Goals.{then-k-n-via-then-k-n, then-k-n-via-else-k-n+then-weights-k-eq-NO_ARC}

pub returns-then-k-n : goal.returns-then-k-n
returns-then-k-n c =
    let a = c.args in
    elim c.then-k-n.branch [
      | then-k-n-via-then-k-n w ↦ closed_absent a.weights.now a.n a.k (inl w.if-k-n.true)
      | then-k-n-via-else-k-n+then-weights-k-eq-NO_ARC w ↦ closed_absent a.weights.now a.n a.k (inr w.if-weights-k-eq-NO_ARC.true)
    ]

pub returns : goal.returns
returns c = let a = c.args in closed_edge a.weights.now a.n a.k c.if-k-n.false c.if-weights-k-eq-NO_ARC.false
