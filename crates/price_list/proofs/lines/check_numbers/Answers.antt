-- One test after the other. Assumes nothing.
use borrow.Author.Tests.{le-leb, lt-leb, lt-ltb, le-ltb, eq-eqb, ne_eqb}
use Rattle.instance.specs.Limits.{max_weight, no_arc}
use Rattle.price_list.specs.Lines.{table_refusal}
use Rattle.price_list.proofs.lines.check_numbers.Goals as goal

pub returns-then-n-tail : goal.returns-then-n-tail
unfolding table_refusal
returns-then-n-tail c = simp (le-leb c.args.n c.args.tail c.if-n-tail.true)

pub returns-then-n-head : goal.returns-then-n-head
unfolding table_refusal
returns-then-n-head c = simp (lt-leb c.args.n c.args.tail c.if-n-tail.false, le-leb c.args.n c.args.head c.if-n-head.true)

pub returns-then-tail-head : goal.returns-then-tail-head
unfolding table_refusal
returns-then-tail-head c =
    let a = c.args in
    simp (lt-leb a.n a.tail c.if-n-tail.false, lt-leb a.n a.head c.if-n-head.false, eq-eqb a.tail a.head c.if-tail-head.true)

pub returns-then-head-root : goal.returns-then-head-root
unfolding table_refusal
returns-then-head-root c =
    let a = c.args in
    simp (lt-leb a.n a.tail c.if-n-tail.false, lt-leb a.n a.head c.if-n-head.false, ne_eqb a.tail a.head c.if-tail-head.false, eq-eqb a.head a.root c.if-head-root.true)

pub returns-then-weight-gt-MAX_WEIGHT : goal.returns-then-weight-gt-MAX_WEIGHT
unfolding table_refusal
returns-then-weight-gt-MAX_WEIGHT c =
    let a = c.args in
    simp (lt-leb a.n a.tail c.if-n-tail.false, lt-leb a.n a.head c.if-n-head.false, ne_eqb a.tail a.head c.if-tail-head.false, ne_eqb a.head a.root c.if-head-root.false, lt-ltb max_weight a.weight c.if-weight-gt-MAX_WEIGHT.true)

pub returns-then-table-tail-ne-NO_ARC : goal.returns-then-table-tail-ne-NO_ARC
unfolding table_refusal
returns-then-table-tail-ne-NO_ARC c =
    let a = c.args in
    simp (lt-leb a.n a.tail c.if-n-tail.false, lt-leb a.n a.head c.if-n-head.false, ne_eqb a.tail a.head c.if-tail-head.false, ne_eqb a.head a.root c.if-head-root.false, le-ltb max_weight a.weight c.if-weight-gt-MAX_WEIGHT.false, ne_eqb _ no_arc c.if-table-tail-ne-NO_ARC.true)

pub returns : goal.returns
unfolding table_refusal
returns c =
    let a = c.args in
    simp (lt-leb a.n a.tail c.if-n-tail.false, lt-leb a.n a.head c.if-n-head.false, ne_eqb a.tail a.head c.if-tail-head.false, ne_eqb a.head a.root c.if-head-root.false, le-ltb max_weight a.weight c.if-weight-gt-MAX_WEIGHT.false, eq-eqb _ no_arc c.if-table-tail-ne-NO_ARC.false)
