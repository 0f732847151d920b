-- The diagonal and a place with no price have no state. Assumes nothing.
use mathlib.Core.Path.{sym, ◌∙◌}
use mathlib.Core.Logic.{inl, inr}
use lib.ListN.{take}
use Rattle.prim.proofs.PlaceLaws.{row_is, column_is, row_below}
use Rattle.runs.proofs.ShowLaws.{place_absent, place_edge}
use Rattle.runs.proofs.show.place_state.Goals as goal
use Rattle.runs.proofs.show.place_state.Goals.{then-i-j-via-then-i-j, then-i-j-via-else-i-j+then-weights-k-eq-NO_ARC}

pub returns-then-i-j : goal.returns-then-i-j
returns-then-i-j c =
    let a = c.args in
    let p = c.requires.2 in
    let n = a.shown.now.n in
    let absent = place_absent a.weights.now n a.k a.shown.now.keys.now (take n a.shown.now.parents.now) a.shown.now.total a.shown.now.limit in
    elim c.then-i-j.branch [
      | then-i-j-via-then-i-j w ↦ absent (inl (row_is n a.k a.i a.j p ∙ w.if-i-j.true ∙ sym (column_is n a.k a.i a.j p)))
      | then-i-j-via-else-i-j+then-weights-k-eq-NO_ARC w ↦ absent (inr w.if-weights-k-eq-NO_ARC.true)
    ]

pub tree_state-requires : goal.tree_state-requires
tree_state-requires c =
    let a = c.args in
    let p = c.requires in
    (row_below a.shown.now.n a.k a.i a.j p.2 p.1, p.2.column, c.if-i-j.false)

pub returns : goal.returns
returns c =
    let a = c.args in
    let n = a.shown.now.n in
    let row = row_is n a.k a.i a.j c.requires.2 in
    let column = column_is n a.k a.i a.j c.requires.2 in
    c.tree_state.ensures
    ∙ (rw (row, column) at
    (place_edge a.weights.now n a.k a.shown.now.keys.now (take n a.shown.now.parents.now) a.shown.now.total a.shown.now.limit (λ z. c.if-i-j.false (sym row ∙ z ∙ column))
    c.if-weights-k-eq-NO_ARC.false))
