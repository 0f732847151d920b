-- What is refused from the place at hand on is what the whole graph is refused by. Assumes nothing.
use mathlib.Core.Path.{sym, ◌∙◌}
use Prim.Native.Nat.{◌*◌}
use Rattle.std.proofs.lemmas.Result.{err_from_is_err_and}
use Rattle.spanning.specs.Graph.{graph_of}
use Rattle.instance.proofs.RefusalLaws.{not_0}
use Rattle.prim.proofs.PlaceLaws.{first_placed, row_is, column_is, row_below}
use Rattle.runs.proofs.RefusalLaws.{from_first, from_stop, from_next, from_end}
use Rattle.runs.proofs.refusal.check_edges.Goals as goal

pub loop-init : goal.loop-init
loop-init c =
    let a = c.args in
    let e = c.first-place.ensures in
    (λ l. rw (e.0, e.1) (first_placed a.n l), from_first (graph_of a.n a.weights.now a.marks.now))

pub check_edge-requires : goal.check_edge-requires
check_edge-requires c =
    let l = c.loop in
    let r = c.requires in
    let p = l.invariant.0 c.loop-test.true in
    (r.1, r.2, r.3, row_below c.args.n l.counter l.place.row l.place.column p c.loop-test.true, p.column)

pub returns-in_err-check_edge : goal.returns-in_err-check_edge
returns-in_err-check_edge c =
    let a = c.args in
    let l = c.loop in
    let p = l.invariant.0 c.loop-test.true in
    let e =
    rw (← row_is a.n l.counter l.place.row l.place.column p, ← column_is a.n l.counter l.place.row l.place.column p) at c.in_err-check_edge.ensures in
    let q = err_from_is_err_and c.from_residual.result c.from_residual.ensures.1 in
    rw (q.1, q.2)
    (e ∙ sym (l.invariant.1 ∙ from_stop (graph_of a.n a.weights.now a.marks.now) (a.n * a.n) l.counter c.loop-test.true (λ z. not_0 c.in_err-check_edge.field-0.0 (e ∙ z))))

pub next-place-requires : goal.next-place-requires
next-place-requires c =
    let l = c.loop in
    let p = l.invariant.0 c.loop-test.true in
    (row_below c.args.n l.counter l.place.row l.place.column p c.loop-test.true, p.column)

pub loop-preserved : goal.loop-preserved
loop-preserved c =
    let a = c.args in
    let l = c.loop in
    let p = l.invariant.0 c.loop-test.true in
    let e =
    rw (← row_is a.n l.counter l.place.row l.place.column p, ← column_is a.n l.counter l.place.row l.place.column p) at c.in_ok-check_edge.ensures in
    (λ _. c.next-place.ensures l.counter p, l.invariant.1 ∙ from_next (graph_of a.n a.weights.now a.marks.now) (a.n * a.n) l.counter c.loop-test.true (sym e))

pub returns : goal.returns
returns c =
    let a = c.args in
    let l = c.loop in
    sym (l.invariant.1 ∙ from_end (graph_of a.n a.weights.now a.marks.now) (a.n * a.n) l.counter c.loop-test.false)
