-- By what is read at the two places of the pair. Assumes nothing.
use mathlib.Core.Path.{sym, ◌∙◌}
use mathlib.Core.Logic.{inl, inr}
use Prim.Native.Nat.{◌+◌, ◌*◌, ◌<◌}
use native.Mathlib.Omega.{arith}
use lib.ListN.{length}
use Rattle.spanning.specs.Graph.{graph_of}
use Rattle.prim.proofs.PlaceLaws.{place}
use Rattle.runs.proofs.RefusalLaws.{edge_same, edge_out, edge_unequal, edge_equal}
use Rattle.runs.proofs.refusal.check_edge.Goals as goal
use Rattle.runs.proofs.refusal.check_edge.Goals.{then-weights-place-via-then-weights-place, then-weights-place-via-else-weights-place+then-marks-place}

pub returns-then-i-j : goal.returns-then-i-j
returns-then-i-j c = let a = c.args in edge_same (graph_of a.n a.weights.now a.marks.now) a.i a.j c.if-i-j.true

pub returns-then-not-cell_ok : goal.returns-then-not-cell_ok
returns-then-not-cell_ok c =
    let a = c.args in
    let p = c.requires in
    let x = place a.n a.i a.j p.0 p.3 p.4 in
    let y = place a.n a.j a.i p.0 p.4 p.3 in
    let long = p.1 in
    let i = x.inside in
    let j = y.inside in
    let inside : a.i * a.n + a.j < length a.weights.now = omega arith in
    let turned : a.j * a.n + a.i < length a.weights.now = omega arith in
    edge_out a.n a.weights.now a.marks.now a.i a.j inside turned c.if-i-j.false (sym c.cell_ok.ensures ∙ c.if-not-cell_ok.true)

pub returns-then-weights-place : goal.returns-then-weights-place
returns-then-weights-place c =
    let a = c.args in
    let p = c.requires in
    let x = place a.n a.i a.j p.0 p.3 p.4 in
    let y = place a.n a.j a.i p.0 p.4 p.3 in
    let long = p.1 in
    let i = x.inside in
    let j = y.inside in
    let inside : a.i * a.n + a.j < length a.weights.now = omega arith in
    let turned : a.j * a.n + a.i < length a.weights.now = omega arith in
    let unequal = edge_unequal a.n a.weights.now a.marks.now a.i a.j inside turned c.if-i-j.false (sym c.cell_ok.ensures ∙ c.if-not-cell_ok.false) in
    elim c.then-weights-place.branch [
      | then-weights-place-via-then-weights-place w ↦ unequal (inl w.if-weights-place.true)
      | then-weights-place-via-else-weights-place+then-marks-place w ↦ unequal (inr w.if-marks-place.true)
    ]

pub returns : goal.returns
returns c =
    let a = c.args in
    let p = c.requires in
    let x = place a.n a.i a.j p.0 p.3 p.4 in
    let y = place a.n a.j a.i p.0 p.4 p.3 in
    let long = p.1 in
    let i = x.inside in
    let j = y.inside in
    let inside : a.i * a.n + a.j < length a.weights.now = omega arith in
    let turned : a.j * a.n + a.i < length a.weights.now = omega arith in
    edge_equal a.n a.weights.now a.marks.now a.i a.j inside turned c.if-i-j.false (sym c.cell_ok.ensures ∙ c.if-not-cell_ok.false) c.if-weights-place.false c.if-marks-place.false
