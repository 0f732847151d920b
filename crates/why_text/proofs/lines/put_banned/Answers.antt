-- Who set the mark goes behind the words. Assumes nothing.
use Rattle.text.specs.Lines.{codes}
use Rattle.text.proofs.BufferLaws.{room_first, puts_room, puts_then}
use Rattle.why_text.specs.Lines.{line_text}
use Rattle.why_text.proofs.lines.put_banned.Goals as goal

pub put_bytes-next-requires : goal.put_bytes-next-requires
unfolding codes line_text
put_bytes-next-requires c = room_first _ c.requires

pub put_setter-requires : goal.put_setter-requires
unfolding codes line_text
put_setter-requires c =
    puts_room c.put_bytes-next.ensures _ c.requires

pub returns : goal.returns
unfolding codes line_text
returns c =
    puts_then c.put_bytes-next.ensures c.requires c.put_setter.ensures
