-- One test after the other. Assumes nothing.
use mathlib.Core.Logic.{inl, inr}
use native.Mathlib.Omega.{arith}
use Rattle.runs.proofs.RefusalLaws.{room_count, room_short, room_enough}
use Rattle.runs.proofs.refusal.check_room.Goals as goal
use Rattle.runs.proofs.refusal.check_room.Goals.{then-n-eq0-via-then-n-eq0, then-n-eq0-via-else-n-eq0+then-n-gt-MAX_VERTICES, then-weights-size-via-then-weights-size, then-weights-size-via-else-weights-size+then-marks-size, then-weights-size-via-else-weights-size+else-marks-size+then-states-size, then-weights-size-via-else-weights-size+else-marks-size+else-states-size+then-costs-size}

pub returns-then-n-eq0 : goal.returns-then-n-eq0
returns-then-n-eq0 c =
    let a = c.args in
    elim c.then-n-eq0.branch [
      | then-n-eq0-via-then-n-eq0 w ↦ room_count a.n a.weights a.marks a.states a.costs (inl w.if-n-eq0.true)
      | then-n-eq0-via-else-n-eq0+then-n-gt-MAX_VERTICES w ↦ room_count a.n a.weights a.marks a.states a.costs (inr w.if-n-gt-MAX_VERTICES.true)
    ]

pub returns-then-weights-size : goal.returns-then-weights-size
returns-then-weights-size c =
    let a = c.args in
    let short = room_short a.n a.weights a.marks a.states a.costs (omega arith) c.if-n-gt-MAX_VERTICES.false in
    elim c.then-weights-size.branch [
      | then-weights-size-via-then-weights-size w ↦ short (inl (inl w.if-weights-size.true))
      | then-weights-size-via-else-weights-size+then-marks-size w ↦ short (inl (inr w.if-marks-size.true))
      | then-weights-size-via-else-weights-size+else-marks-size+then-states-size w ↦ short (inr (inl w.if-states-size.true))
      | then-weights-size-via-else-weights-size+else-marks-size+else-states-size+then-costs-size w ↦ short (inr (inr w.if-costs-size.true))
    ]

pub returns : goal.returns
returns c =
    let a = c.args in
    room_enough a.n a.weights a.marks a.states a.costs (omega arith) c.if-n-gt-MAX_VERTICES.false c.if-weights-size.false c.if-marks-size.false c.if-states-size.false c.if-costs-size.false
