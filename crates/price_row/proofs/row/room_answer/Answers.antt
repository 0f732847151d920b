-- One test after the other.
use Prim.Native.Nat.{◌*◌}
use borrow.Author.Tests.{lt-ltb, le-ltb, le-leb, lt-leb, eq-eqb, ne_eqb}
use Rattle.instance.specs.Limits.{max_vertices}
use Rattle.price_row.specs.Row.{room_refusal}
use Rattle.price_row.proofs.row.room_answer.Goals as goal

pub returns-then-n-eq0 : goal.returns-then-n-eq0
unfolding room_refusal
returns-then-n-eq0 c = simp (eq-eqb c.args.n 0 c.if-n-eq0.true)

pub returns-then-n-gt-MAX_VERTICES : goal.returns-then-n-gt-MAX_VERTICES
unfolding room_refusal
returns-then-n-gt-MAX_VERTICES c =
    let a = c.args in simp (ne_eqb a.n 0 c.if-n-eq0.false, lt-ltb max_vertices a.n c.if-n-gt-MAX_VERTICES.true)

pub returns-then-n-tail : goal.returns-then-n-tail
unfolding room_refusal
returns-then-n-tail c =
    let a = c.args in
    simp (ne_eqb a.n 0 c.if-n-eq0.false, le-ltb max_vertices a.n c.if-n-gt-MAX_VERTICES.false, le-leb a.n a.tail c.if-n-tail.true)

pub returns-then-school-size : goal.returns-then-school-size
unfolding room_refusal
returns-then-school-size c =
    let a = c.args in
    simp (ne_eqb a.n 0 c.if-n-eq0.false, le-ltb max_vertices a.n c.if-n-gt-MAX_VERTICES.false, lt-leb a.n a.tail c.if-n-tail.false, lt-ltb a.school (a.n * a.n) c.if-school-size.true)

pub returns-then-shipped-size : goal.returns-then-shipped-size
unfolding room_refusal
returns-then-shipped-size c =
    let a = c.args in
    simp (ne_eqb a.n 0 c.if-n-eq0.false, le-ltb max_vertices a.n c.if-n-gt-MAX_VERTICES.false, lt-leb a.n a.tail c.if-n-tail.false, le-ltb a.school (a.n * a.n) c.if-school-size.false, lt-ltb a.shipped (a.n * a.n) c.if-shipped-size.true)

pub returns : goal.returns
unfolding room_refusal
returns c =
    let a = c.args in
    simp (ne_eqb a.n 0 c.if-n-eq0.false, le-ltb max_vertices a.n c.if-n-gt-MAX_VERTICES.false, lt-leb a.n a.tail c.if-n-tail.false, le-ltb a.school (a.n * a.n) c.if-school-size.false, le-ltb a.shipped (a.n * a.n) c.if-shipped-size.false)
