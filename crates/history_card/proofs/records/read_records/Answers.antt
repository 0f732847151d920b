-- `read_records` meets its contract: the loop's invariant is `Reading`. Assumes nothing.
use native.Mathlib.Omega.{arith}
use Rattle.instance.specs.Matrix.{unmarked}
use Rattle.std.proofs.lemmas.Result.{err_from_is_err_and}
use Rattle.history_card.proofs.RecordsLaws.{reading_begun, record_stops, record_more, end_refused, all_read}
use Rattle.history_card.proofs.records.read_records.Goals as goal

pub loop-k-init : goal.loop-k-init
loop-k-init c =
    let a = c.args in
    reading_begun a.card.now (unmarked a.n a.root a.weights.now) a.start a.count c.requires.n_le_max_vertices.2

pub returns-in_err-read : goal.returns-in_err-read
returns-in_err-read c =
    let a = c.args in
    let l = c.loop-k in
    let p = err_from_is_err_and c.from_residual.result c.from_residual.ensures.1 in
    rw (p.1, p.2)
    (record_stops a.card.now (unmarked a.n a.root a.weights.now) a.start a.count l.records l.at l.k l.invariant (omega arith) _ c.in_err-read.ensures)

pub loop-k-preserved : goal.loop-k-preserved
loop-k-preserved c =
    let a = c.args in
    let l = c.loop-k in
    record_more a.card.now (unmarked a.n a.root a.weights.now) a.start a.count l.records l.at l.k l.invariant (omega arith) _ c.in_ok-read.ensures

pub returns-in_err-check_end : goal.returns-in_err-check_end
returns-in_err-check_end c =
    let a = c.args in
    let l = c.loop-k in
    let p = err_from_is_err_and c.from_residual-in_err-check_end.result c.from_residual-in_err-check_end.ensures.1 in
    rw (p.1, p.2)
    (end_refused a.card.now (unmarked a.n a.root a.weights.now) a.start a.count l.records l.at l.k l.invariant (omega arith) _ c.in_err-check_end.ensures)

pub returns : goal.returns
returns c =
    let a = c.args in
    let l = c.loop-k in
    all_read a.card.now (unmarked a.n a.root a.weights.now) a.start a.count l.records l.at l.k l.invariant (omega arith) c.in_ok-check_end.ensures
