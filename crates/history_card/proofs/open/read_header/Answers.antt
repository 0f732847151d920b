-- `read_header` meets its contract: each return is the case that the tests before it leave. Assumes nothing.
use mathlib.Core.Path.{◌∙◌, sym}
use Prim.Native.Nat.{◌+◌, ◌*◌}
use native.Mathlib.Omega.{arith}
use lib.ListN.{length}
use borrow.Author.Tests.{lt-ltb, le-ltb, ltb-false, eq-eqb, ne_eqb}
use Rattle.bits.specs.Bits.{bits_in}
use Rattle.bits.proofs.FieldLaws.{field_drop}
use Rattle.card_format.specs.Widths.{n_width}
use Rattle.card_format.specs.Card.{bits_needed}
use Rattle.card_format.proofs.LengthLaws.{length_known}
use Rattle.history_format.specs.RecordWidths.{marker_width}
use Rattle.history_format.specs.HistoryCard.{history_header_refusal}
use Rattle.history_card.proofs.RecordLaws.{short_here, whole_here}
use Rattle.history_card.proofs.OpenLaws.{fields_last}
use Rattle.history_card.proofs.open.read_header.Goals as goal

pub returns-then-card-lt-MIN_CARD : goal.returns-then-card-lt-MIN_CARD
unfolding history_header_refusal
returns-then-card-lt-MIN_CARD c = record { judged = simp (lt-ltb _ _ c.if-card-lt-MIN_CARD.true); fields = tt }

pub returns-then-not-is_history_card : goal.returns-then-not-is_history_card
unfolding history_header_refusal
returns-then-not-is_history_card c =
    let e = sym c.is_history_card.ensures ∙ c.if-not-is_history_card.true in
    record { judged = simp (le-ltb _ _ c.if-card-lt-MIN_CARD.false, e); fields = tt }

pub returns-then-n-eq0 : goal.returns-then-n-eq0
unfolding history_header_refusal
returns-then-n-eq0 c =
    let ws = c.args.card.now in
    let e = sym c.is_history_card.ensures ∙ c.if-not-is_history_card.false in
    let n = c.read_bits-n.ensures ∙ sym (field_drop marker_width 0 n_width (bits_in ws)) in
    record { judged = simp (le-ltb _ _ c.if-card-lt-MIN_CARD.false, e, ← n, eq-eqb _ _ c.if-n-eq0.true); fields = tt }

pub returns-then-n-gt-MAX_VERTICES : goal.returns-then-n-gt-MAX_VERTICES
unfolding history_header_refusal
returns-then-n-gt-MAX_VERTICES c =
    let ws = c.args.card.now in
    let e = sym c.is_history_card.ensures ∙ c.if-not-is_history_card.false in
    let n = c.read_bits-n.ensures ∙ sym (field_drop marker_width 0 n_width (bits_in ws)) in
    record { judged = simp (le-ltb _ _ c.if-card-lt-MIN_CARD.false, e, ← n, ne_eqb _ _ c.if-n-eq0.false, lt-ltb _ _ c.if-n-gt-MAX_VERTICES.true); fields = tt }

pub overflow_add-needed_bits : goal.overflow_add-needed_bits
overflow_add-needed_bits c = omega (arith, c.needed_bits.ensures, (length_known c.read_bits-n.result c.if-n-gt-MAX_VERTICES.false).most)

pub runs_past-requires : goal.runs_past-requires
runs_past-requires c = omega (arith, c.needed_bits.ensures, (length_known c.read_bits-n.result c.if-n-gt-MAX_VERTICES.false).most)

pub returns-then-runs_past : goal.returns-then-runs_past
unfolding history_header_refusal
returns-then-runs_past c =
    let ws = c.args.card.now in
    let e = sym c.is_history_card.ensures ∙ c.if-not-is_history_card.false in
    let n = c.read_bits-n.ensures ∙ sym (field_drop marker_width 0 n_width (bits_in ws)) in
    let v = c.read_bits-n.result in
    let p = (length_known v c.if-n-gt-MAX_VERTICES.false).header in
    let s = short_here ws marker_width (bits_needed v) (omega arith) (rw c.needed_bits.ensures at (sym c.runs_past.ensures ∙ c.if-runs_past.true)) in
    record { judged = simp (le-ltb _ _ c.if-card-lt-MIN_CARD.false, e, ← n, ne_eqb _ _ c.if-n-eq0.false, le-ltb _ _ c.if-n-gt-MAX_VERTICES.false, lt-ltb _ _ s); fields = tt }

pub read_fields-requires : goal.read_fields-requires
read_fields-requires c =
    let ws = c.args.card.now in
    let v = c.read_bits-n.result in
    let p = (length_known v c.if-n-gt-MAX_VERTICES.false).header in
    let s = ltb-false (8 * length ws) (marker_width + bits_needed v) (rw c.needed_bits.ensures at (sym c.runs_past.ensures ∙ c.if-runs_past.false)) in
    (omega arith, omega arith)

pub returns : goal.returns
returns c =
    let ws = c.args.card.now in
    let e = sym c.is_history_card.ensures ∙ c.if-not-is_history_card.false in
    let n = c.read_bits-n.ensures ∙ sym (field_drop marker_width 0 n_width (bits_in ws)) in
    let v = c.read_bits-n.result in
    let p = (length_known v c.if-n-gt-MAX_VERTICES.false).header in
    let s = whole_here ws marker_width (bits_needed v) (omega arith) (rw c.needed_bits.ensures at (sym c.runs_past.ensures ∙ c.if-runs_past.false)) in
    let f = c.read_fields.ensures in
    record {
      judged = f.judged ∙ rw n (fields_last ws c.if-card-lt-MIN_CARD.false e (rw n at c.if-n-eq0.false) (rw n at c.if-n-gt-MAX_VERTICES.false) (rw n at s));
      fields = rw (← n) f.fields;
    }
