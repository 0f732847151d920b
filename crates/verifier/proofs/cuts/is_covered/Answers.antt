-- `is_covered` counts the weight down: what the cuts that are left charge is held against what is left. Assumes
-- nothing.
use mathlib.Core.Path.{sym, ◌∙◌}
use Rattle.verifier.proofs.CutsLaws.{covering_skip, covering_less, covering_past, covering_none}
use Rattle.verifier.proofs.cuts.is_covered.Goals as goal
use Rattle.verifier.proofs.cuts.is_covered.Goals.{then-is_entering+else-room-value, else-is_entering}

pub returns-then-room-value : goal.returns-then-room-value
returns-then-room-value c =
    let a = c.args in
    let l = c.loop-set in
    sym
    (covering_past a.tail a.head a.cuts.now a.weight l.set-index l.room c.loop-set-test.true l.invariant
    (sym c.is_entering.ensures ∙ c.if-is_entering.true) c.if-room-value.true)

pub loop-set-preserved : goal.loop-set-preserved
loop-set-preserved c =
    let a = c.args in
    let l = c.loop-set in
    elim c.if-is_entering.branch [
      | then-is_entering+else-room-value w ↦
          rw w.room-is
          (covering_less a.tail a.head a.cuts.now a.weight l.set-index l.room c.loop-set-test.true l.invariant (sym c.is_entering.ensures ∙ w.if-is_entering.true)
          w.if-room-value.false)
      | else-is_entering w ↦
          rw w.room-is
          (covering_skip a.tail a.head a.cuts.now a.weight l.set-index l.room c.loop-set-test.true l.invariant (sym c.is_entering.ensures ∙ w.if-is_entering.false))
    ]

pub returns : goal.returns
returns c =
    let a = c.args in
    let l = c.loop-set in
    sym (covering_none a.tail a.head a.cuts.now a.weight l.set-index l.room c.loop-set-test.false l.invariant)
