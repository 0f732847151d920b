-- `is_valid` is the definition: each test that fails decides, and the records decide last. Assumes nothing.
use mathlib.Core.Path.{sym, ◌∙◌}
use Rattle.commands.proofs.ValidLaws.{cells_valid_of, records_ok_of}
use Rattle.commands.proofs.ValidLaws.{header_n_high, header_invalid, cell_invalid, count_invalid, only_records}
use Rattle.board.proofs.ModelOfLaws.{length_history}
use Rattle.board.proofs.valid.is_valid.Goals as goal

pub returns-then-not-header_valid : goal.returns-then-not-header_valid
returns-then-not-header_valid c = header_invalid _ (sym c.header_valid.ensures ∙ c.if-not-header_valid.true)

pub returns-then-not-cells_valid : goal.returns-then-not-cells_valid
returns-then-not-cells_valid c =
    cell_invalid _ (sym c.header_valid.ensures ∙ c.if-not-header_valid.false)
    (sym (cells_valid_of _ 0) ∙ sym c.cells_valid.ensures ∙ c.if-not-cells_valid.true)

pub returns-then-b-gt-MAX_RECORDS : goal.returns-then-b-gt-MAX_RECORDS
returns-then-b-gt-MAX_RECORDS c =
    count_invalid _ (sym c.header_valid.ensures ∙ c.if-not-header_valid.false)
    (sym (cells_valid_of _ 0) ∙ sym c.cells_valid.ensures ∙ c.if-not-cells_valid.false)
    (rw (length_history c.args.b.now.count c.args.b.now.records) c.if-b-gt-MAX_RECORDS.true)

pub records_valid-requires : goal.records_valid-requires
records_valid-requires c =
    (header_n_high _ _ _ (sym c.header_valid.ensures ∙ c.if-not-header_valid.false), c.if-b-gt-MAX_RECORDS.false)

pub returns : goal.returns
returns c =
    c.records_valid.ensures ∙ records_ok_of _ _
    ∙ only_records _ (sym c.header_valid.ensures ∙ c.if-not-header_valid.false)
    (sym (cells_valid_of _ 0) ∙ sym c.cells_valid.ensures ∙ c.if-not-cells_valid.false)
    (rw (length_history c.args.b.now.count c.args.b.now.records) c.if-b-gt-MAX_RECORDS.false)
