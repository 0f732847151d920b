-- `read_fields` meets its contract: a field behind the start is one of the bits without those before it. Assumes
-- nothing.
use mathlib.Core.Path.{◌∙◌, sym}
use Prim.Native.Nat.{◌+◌}
use borrow.Author.Tests.{lt-ltb, le-ltb, le-leb, lt-leb}
use Rattle.bits.specs.Bits.{bits_in}
use Rattle.bits.proofs.FieldLaws.{field_drop}
use Rattle.card_format.specs.Widths.{n_width, root_width, budget_width}
use Rattle.card.specs.Read.{fields_refusal}
use Rattle.card.proofs.read.read_fields.Goals as goal

pub returns-then-n-root : goal.returns-then-n-root
unfolding fields_refusal
returns-then-n-root c =
    let a = c.args in
    let r = c.read_bits-root.ensures ∙ sym (field_drop a.start n_width root_width (bits_in a.card.now)) in
    record { judged = simp (← r, le-leb _ _ c.if-n-root.true); fields = tt }

pub returns-then-budget-gt-MAX_BUDGET : goal.returns-then-budget-gt-MAX_BUDGET
unfolding fields_refusal
returns-then-budget-gt-MAX_BUDGET c =
    let a = c.args in
    let r = c.read_bits-root.ensures ∙ sym (field_drop a.start n_width root_width (bits_in a.card.now)) in
    let b = c.read_bits-budget.ensures ∙ sym (field_drop a.start (n_width + root_width) budget_width (bits_in a.card.now)) in
    record { judged = simp (← r, lt-leb _ _ c.if-n-root.false, ← b, lt-ltb _ _ c.if-budget-gt-MAX_BUDGET.true); fields = tt }

pub returns : goal.returns
unfolding fields_refusal
returns c =
    let a = c.args in
    let r = c.read_bits-root.ensures ∙ sym (field_drop a.start n_width root_width (bits_in a.card.now)) in
    let b = c.read_bits-budget.ensures ∙ sym (field_drop a.start (n_width + root_width) budget_width (bits_in a.card.now)) in
    record { judged = simp (← r, lt-leb _ _ c.if-n-root.false, ← b, le-ltb _ _ c.if-budget-gt-MAX_BUDGET.false); fields = rw (r, b) }
