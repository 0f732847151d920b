-- `read_any_record` meets its contract: by the kind, if there is a whole one. Assumes nothing.
use mathlib.Core.Path.{◌≡◌, ◌∙◌, sym}
use Prim.Native.Nat.{ℕ}
use native.Mathlib.Omega.{arith}
use native.Mathlib.Nat.{add-zero}
use mathlib.Core.List.{List}
use lib.ListN.{drop}
use Rattle.bits.specs.Bits.{bits_in, field}
use Rattle.bits.proofs.FieldLaws.{field_drop}
use Rattle.history_format.specs.RecordWidths.{kind_width}
use Rattle.history_format.specs.RecordBits.{kind_in}
use Rattle.history_format.proofs.RecordLength.{record_length_least}
use Rattle.history_card.proofs.RecordLaws.{whole_here, past_read, three_read}
use Rattle.history_card.proofs.record.read_any_record.Goals as goal

same_kind : (ws : List ℕ) (at v : ℕ) → v ≡ field at kind_width (bits_in ws) → v ≡ kind_in (drop at (bits_in ws))
same_kind ws at v e = e ∙ sym (field_drop at 0 kind_width (bits_in ws) ∙ rw (add-zero at))

pub returns-then-runs_past : goal.returns-then-runs_past
returns-then-runs_past c =
    let a = c.args in
    past_read a.card.now a.at kind_width (omega arith) (record_length_least _) (sym c.runs_past.ensures ∙ c.if-runs_past.true)

pub read_mark_record-requires : goal.read_mark_record-requires
read_mark_record-requires c = let a = c.args in (sym (same_kind a.card.now a.at _ c.read_bits-kind.ensures) ∙ c.in-0.is, omega arith)

pub read_budget_record-requires : goal.read_budget_record-requires
read_budget_record-requires c = let a = c.args in (sym (same_kind a.card.now a.at _ c.read_bits-kind.ensures) ∙ c.in-1.is, omega arith)

pub read_marks_record-requires : goal.read_marks_record-requires
read_marks_record-requires c = let a = c.args in (sym (same_kind a.card.now a.at _ c.read_bits-kind.ensures) ∙ c.in-2.is, omega arith)

pub returns-in_default : goal.returns-in_default
returns-in_default c =
    let a = c.args in
    let k = same_kind a.card.now a.at _ c.read_bits-kind.ensures in
    let r = c.in_default.in_default-own.rest in
    three_read a.card.now a.at (whole_here a.card.now a.at kind_width (omega arith) (sym c.runs_past.ensures ∙ c.if-runs_past.false))
    (λ z. r.0.0.1 (k ∙ z)) (λ z. r.0.1 (k ∙ z)) (λ z. r.1 (k ∙ z))
