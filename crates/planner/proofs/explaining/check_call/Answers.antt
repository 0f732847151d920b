-- Each way out answers with the tests that led there. Assumes nothing.
use mathlib.Core.Path.{sym, ◌∙◌}
use borrow.Author.Tests.{lt-ltb, le-ltb}
use Rattle.std.proofs.Common.{rules}
use Rattle.commands.proofs.ValidLaws.{valid_parts}
use Rattle.planner.proofs.ExplainingLaws.{arc_of}
use Rattle.planner.specs.Explaining.{tree_short, arc_answer, explain_answer}
use Rattle.planner.proofs.explaining.check_call.Goals as goal

pub returns-then-not-is_valid : goal.returns-then-not-is_valid
unfolding explain_answer arc_answer
returns-then-not-is_valid c = rw (sym c.is_valid.ensures ∙ c.if-not-is_valid.true)

pub returns-then-b-tail : goal.returns-then-b-tail
unfolding explain_answer arc_answer
returns-then-b-tail c = rw (sym c.is_valid.ensures ∙ c.if-not-is_valid.false, le-ltb _ _ c.if-b-tail.true)

pub returns-then-b-head : goal.returns-then-b-head
unfolding explain_answer arc_answer
returns-then-b-head c =
    rw (sym c.is_valid.ensures ∙ c.if-not-is_valid.false, lt-ltb _ _ c.if-b-tail.false, le-ltb _ _ c.if-b-head.true)

pub is_arc-requires : goal.is_arc-requires
is_arc-requires c = ((valid_parts _ (sym c.is_valid.ensures ∙ c.if-not-is_valid.false)).n_high, search rules)

pub returns-then-not-is_arc : goal.returns-then-not-is_arc
unfolding explain_answer arc_answer
returns-then-not-is_arc c =
    let b = c.args.b.now in
    let arc = arc_of b.n b.root b.budget b.weights b.marks c.args.tail c.args.head in
    rw (sym c.is_valid.ensures ∙ c.if-not-is_valid.false, lt-ltb _ _ c.if-b-tail.false, lt-ltb _ _ c.if-b-head.false, sym (c.is_arc.ensures ∙ arc) ∙ c.if-not-is_arc.true)

pub returns-then-parents-b : goal.returns-then-parents-b
unfolding explain_answer arc_answer tree_short
returns-then-parents-b c =
    let b = c.args.b.now in
    let arc = arc_of b.n b.root b.budget b.weights b.marks c.args.tail c.args.head in
    rw (sym c.is_valid.ensures ∙ c.if-not-is_valid.false, lt-ltb _ _ c.if-b-tail.false, lt-ltb _ _ c.if-b-head.false, sym (c.is_arc.ensures ∙ arc) ∙ c.if-not-is_arc.false, lt-ltb _ _ c.if-parents-b.true)

pub returns-then-cuts-lt-CUT_WORDS : goal.returns-then-cuts-lt-CUT_WORDS
unfolding explain_answer arc_answer tree_short
returns-then-cuts-lt-CUT_WORDS c =
    let b = c.args.b.now in
    let arc = arc_of b.n b.root b.budget b.weights b.marks c.args.tail c.args.head in
    rw (sym c.is_valid.ensures ∙ c.if-not-is_valid.false, lt-ltb _ _ c.if-b-tail.false, lt-ltb _ _ c.if-b-head.false, sym (c.is_arc.ensures ∙ arc) ∙ c.if-not-is_arc.false, le-ltb _ _ c.if-parents-b.false, lt-ltb _ _ c.if-cuts-lt-CUT_WORDS.true)

pub returns : goal.returns
unfolding explain_answer arc_answer tree_short
returns c =
    let b = c.args.b.now in
    let arc = arc_of b.n b.root b.budget b.weights b.marks c.args.tail c.args.head in
    rw (sym c.is_valid.ensures ∙ c.if-not-is_valid.false, lt-ltb _ _ c.if-b-tail.false, lt-ltb _ _ c.if-b-head.false, sym (c.is_arc.ensures ∙ arc) ∙ c.if-not-is_arc.false, le-ltb _ _ c.if-parents-b.false, le-ltb _ _ c.if-cuts-lt-CUT_WORDS.false)
