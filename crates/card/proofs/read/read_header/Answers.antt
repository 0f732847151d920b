-- `read_header` meets its contract: each return is the case that the tests before it leave. Assumes nothing.
use mathlib.Core.Path.{◌∙◌}
use borrow.Author.Tests.{lt-ltb, le-ltb, eq-eqb, ne_eqb}
use Rattle.card_format.specs.Card.{header_refusal}
use Rattle.card.proofs.ReadLaws.{fields_last}
use Rattle.card.proofs.read.read_header.Goals as goal

pub returns-then-card-lt-MIN_CARD : goal.returns-then-card-lt-MIN_CARD
unfolding header_refusal
returns-then-card-lt-MIN_CARD c = record { judged = simp (lt-ltb _ _ c.if-card-lt-MIN_CARD.true); fields = tt }

pub returns-then-n-eq0 : goal.returns-then-n-eq0
unfolding header_refusal
returns-then-n-eq0 c =
    record { judged = simp (le-ltb _ _ c.if-card-lt-MIN_CARD.false, ← c.read_bits-n.ensures, eq-eqb _ _ c.if-n-eq0.true); fields = tt }

pub returns-then-n-gt-MAX_VERTICES : goal.returns-then-n-gt-MAX_VERTICES
unfolding header_refusal
returns-then-n-gt-MAX_VERTICES c =
    record { judged = simp (le-ltb _ _ c.if-card-lt-MIN_CARD.false, ← c.read_bits-n.ensures, ne_eqb _ _ c.if-n-eq0.false, lt-ltb _ _ c.if-n-gt-MAX_VERTICES.true); fields = tt }

pub returns-then-card-needed_length : goal.returns-then-card-needed_length
unfolding header_refusal
returns-then-card-needed_length c =
    record {
      judged = simp (
        le-ltb _ _ c.if-card-lt-MIN_CARD.false,
        ← c.read_bits-n.ensures,
        ne_eqb _ _ c.if-n-eq0.false,
        le-ltb _ _ c.if-n-gt-MAX_VERTICES.false,
        ← c.needed_length.ensures,
        ne_eqb _ _ c.if-card-needed_length.true,
      );
      fields = tt;
    }

pub returns : goal.returns
returns c =
    let ws = c.args.card.now in
    let n = c.read_bits-n.ensures in
    let f = c.read_fields.ensures in
    record {
      judged =
          f.judged
          ∙ rw n (fields_last ws c.if-card-lt-MIN_CARD.false (rw n at c.if-n-eq0.false) (rw n at c.if-n-gt-MAX_VERTICES.false) (c.if-card-needed_length.false ∙ c.needed_length.ensures ∙ rw n));
      fields = rw (← n) f.fields;
    }
