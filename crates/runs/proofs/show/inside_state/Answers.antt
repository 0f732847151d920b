-- One test after the other. Assumes nothing.
use Prim.Native.Nat.{◌+◌}
use borrow.Author.Tests.{eq-eqb, ne_eqb, le-leb, lt-leb}
use Rattle.spanning.specs.ReplacementCosts.{no_replacement}
use Rattle.runs.specs.Show.{inside_state}
use Rattle.runs.proofs.show.inside_state.Goals as goal
use Rattle.runs.proofs.show.inside_state.Goals.{else-cost-ne-NO_REPLACEMENT-via-then-cost-ne-NO_REPLACEMENT+else-total-cost, else-cost-ne-NO_REPLACEMENT-via-else-cost-ne-NO_REPLACEMENT}

pub returns-then-total-cost : goal.returns-then-total-cost
unfolding inside_state
returns-then-total-cost c = let a = c.args in simp (ne_eqb a.cost no_replacement c.if-cost-ne-NO_REPLACEMENT.true, le-leb (a.total + a.cost) a.limit c.if-total-cost.true)

pub returns : goal.returns
unfolding inside_state
returns c =
    let a = c.args in
    elim c.else-cost-ne-NO_REPLACEMENT.branch [
      | else-cost-ne-NO_REPLACEMENT-via-then-cost-ne-NO_REPLACEMENT+else-total-cost w ↦
          simp (ne_eqb a.cost no_replacement w.if-cost-ne-NO_REPLACEMENT.true, lt-leb (a.total + a.cost) a.limit w.if-total-cost.false)
      | else-cost-ne-NO_REPLACEMENT-via-else-cost-ne-NO_REPLACEMENT w ↦ simp (eq-eqb a.cost no_replacement w.if-cost-ne-NO_REPLACEMENT.false)
    ]
