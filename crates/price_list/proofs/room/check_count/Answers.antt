-- One test after the other. Assumes nothing.
use borrow.Author.Tests.{le-leb, lt-leb, lt-ltb, le-ltb, eq-eqb, ne_eqb}
use Rattle.instance.specs.Limits.{max_vertices}
use Rattle.price_format.specs.Reading.{count_refusal}
use Rattle.price_list.proofs.room.check_count.Goals as goal

pub returns-then-n-eq0 : goal.returns-then-n-eq0
unfolding count_refusal
returns-then-n-eq0 c = simp (eq-eqb c.args.n 0 c.if-n-eq0.true)

pub returns-then-n-gt-MAX_VERTICES : goal.returns-then-n-gt-MAX_VERTICES
unfolding count_refusal
returns-then-n-gt-MAX_VERTICES c = simp (ne_eqb c.args.n 0 c.if-n-eq0.false, lt-ltb max_vertices c.args.n c.if-n-gt-MAX_VERTICES.true)

pub returns-then-n-root : goal.returns-then-n-root
unfolding count_refusal
returns-then-n-root c =
    let a = c.args in
    simp (ne_eqb a.n 0 c.if-n-eq0.false, le-ltb max_vertices a.n c.if-n-gt-MAX_VERTICES.false, le-leb a.n a.root c.if-n-root.true)

pub returns : goal.returns
unfolding count_refusal
returns c =
    let a = c.args in
    simp (ne_eqb a.n 0 c.if-n-eq0.false, le-ltb max_vertices a.n c.if-n-gt-MAX_VERTICES.false, lt-leb a.n a.root c.if-n-root.false)
