-- `read_budget_record` meets its contract: the laws of its kind. Assumes nothing.
use mathlib.Core.Path.{◌∙◌, sym}
use native.Mathlib.Omega.{arith}
use Rattle.history_format.specs.RecordWidths.{budget_record_width}
use Rattle.history_format.proofs.RecordLaws.{read_budget_length}
use Rattle.history_card.proofs.RecordLaws.{past_read, budget_read}
use Rattle.history_card.proofs.record.read_budget_record.Goals as goal

pub returns-then-runs_past : goal.returns-then-runs_past
returns-then-runs_past c =
    past_read c.args.card.now c.args.at budget_record_width (omega arith) (omega (arith, read_budget_length _ c.requires.0))
    (sym c.runs_past.ensures ∙ c.if-runs_past.true)

pub returns : goal.returns
returns c =
    rw c.read_bits-budget.ensures
    (budget_read c.args.card.now c.args.at c.requires.0 (sym c.runs_past.ensures ∙ c.if-runs_past.false))
