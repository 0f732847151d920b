-- `read_record` meets its contract: what was read is judged by the rule for the records of a board. Assumes nothing.
use mathlib.Core.Path.{◌∙◌, sym}
use Rattle.instance.specs.Matrix.{unmarked}
use Rattle.std.proofs.lemmas.Result.{err_from_is_err_and}
use Rattle.history_card.proofs.RecordLaws.{form_refused, same_record, record_refused, record_taken}
use Rattle.history_card.proofs.record.read_record.Goals as goal

pub returns-in_err-read : goal.returns-in_err-read
returns-in_err-read c =
    let a = c.args in
    let p = err_from_is_err_and c.from_residual.result c.from_residual.ensures.1 in
    rw (p.1, p.2) (form_refused a.card.now a.at (unmarked a.n a.root a.weights.now) _ c.in_err-read.ensures)

pub returns-then-not-record_ok : goal.returns-then-not-record_ok
returns-then-not-record_ok c =
    let a = c.args in
    let s = unmarked a.n a.root a.weights.now in
    let e = same_record a.card.now a.at s _ c.in_ok-read.ensures in
    record_refused a.card.now a.at s _ c.in_ok-read.ensures (rw e at (sym c.record_ok.ensures ∙ c.if-not-record_ok.true))

pub returns : goal.returns
returns c =
    let a = c.args in
    let s = unmarked a.n a.root a.weights.now in
    let e = same_record a.card.now a.at s _ c.in_ok-read.ensures in
    record_taken a.card.now a.at s _ c.in_ok-read.ensures (rw e at (sym c.record_ok.ensures ∙ c.if-not-record_ok.false))
