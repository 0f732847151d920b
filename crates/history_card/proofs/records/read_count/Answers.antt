-- `read_count` meets its contract: each return is a case of `CountRead`. Assumes nothing.
use mathlib.Core.Path.{◌∙◌, sym}
use Rattle.history_card.proofs.RecordsLaws.{count_past, count_above, count_read}
use Rattle.history_card.proofs.records.read_count.Goals as goal

pub returns-then-runs_past : goal.returns-then-runs_past
returns-then-runs_past c =
    let a = c.args in
    count_past a.card.now a.start (sym c.runs_past.ensures ∙ c.if-runs_past.true)

pub returns-then-count-gt-MAX_RECORDS : goal.returns-then-count-gt-MAX_RECORDS
returns-then-count-gt-MAX_RECORDS c =
    let a = c.args in
    count_above a.card.now a.start (sym c.runs_past.ensures ∙ c.if-runs_past.false) _ c.read_bits-count.ensures c.if-count-gt-MAX_RECORDS.true

pub returns : goal.returns
returns c =
    let a = c.args in
    count_read a.card.now a.start (sym c.runs_past.ensures ∙ c.if-runs_past.false) _ c.read_bits-count.ensures c.if-count-gt-MAX_RECORDS.false
