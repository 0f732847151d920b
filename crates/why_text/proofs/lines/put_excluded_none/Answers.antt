-- The line feed goes behind the arc. Assumes nothing.
use native.Mathlib.Omega.{arith}
use Rattle.text.specs.Lines.{codes, line_feed}
use Rattle.text.proofs.BufferLaws.{room_first, byte_room, puts_byte}
use Rattle.why_text.specs.Lines.{line_text}
use Rattle.why_text.proofs.lines.put_excluded_none.Goals as goal

pub put_arc-next-requires : goal.put_arc-next-requires
unfolding codes line_text
put_arc-next-requires c = room_first _ c.requires

pub bounds-out-next : goal.bounds-out-next
unfolding codes line_text
bounds-out-next c = byte_room c.put_arc-next.ensures line_feed c.requires

pub overflow_add-result : goal.overflow_add-result
unfolding codes line_text
overflow_add-result c =
    let h = byte_room c.put_arc-next.ensures line_feed c.requires in
    omega (arith, c.well_formed.1.1.0.0, c.put_arc-next.auto.out)

pub returns : goal.returns
unfolding codes line_text
returns c = puts_byte c.put_arc-next.ensures line_feed c.requires
