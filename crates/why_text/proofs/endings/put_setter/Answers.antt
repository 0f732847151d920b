-- The test of the code is that of the definition. Assumes nothing.
use borrow.Author.Tests.{eq-eqb, ne_eqb}
use Rattle.text.specs.Lines.{codes}
use Rattle.text.proofs.BufferLaws.{room_first, puts_room, puts_then}
use Rattle.why_text.specs.Endings.{setter_end}
use Rattle.why_text.proofs.endings.put_setter.Goals as goal

pub put_bytes-requires : goal.put_bytes-requires
unfolding codes setter_end
put_bytes-requires c = rw (eq-eqb _ _ c.if-place-eq0.true) at c.requires

pub returns-then-place-eq0 : goal.returns-then-place-eq0
unfolding codes setter_end
returns-then-place-eq0 c = rw (eq-eqb _ _ c.if-place-eq0.true) c.put_bytes.ensures

pub put_labelled-next-requires : goal.put_labelled-next-requires
unfolding codes setter_end
put_labelled-next-requires c = room_first _ (rw (ne_eqb _ _ c.if-place-eq0.false) at c.requires)

pub put_line-requires : goal.put_line-requires
unfolding codes setter_end
put_line-requires c =
    puts_room c.put_labelled-next.ensures _ (rw (ne_eqb _ _ c.if-place-eq0.false) at c.requires)

pub returns : goal.returns
unfolding codes setter_end
returns c =
    let e = ne_eqb _ _ c.if-place-eq0.false in
    rw e (puts_then c.put_labelled-next.ensures (rw e at c.requires) c.put_line.ensures)
