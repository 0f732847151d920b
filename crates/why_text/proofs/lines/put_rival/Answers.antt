-- The arc, the words, and who set its mark, one behind the other. Assumes nothing.
use Rattle.text.specs.Lines.{codes}
use Rattle.text.proofs.BufferLaws.{puts_room, puts_then}
use Rattle.why_text.specs.Lines.{line_text}
use Rattle.why_text.proofs.RoomLaws.{rival_words, rival_arc}
use Rattle.why_text.proofs.lines.put_rival.Goals as goal

pub put_arc-named-requires : goal.put_arc-named-requires
unfolding codes
put_arc-named-requires c = rival_arc _ _ _ _ c.requires

pub put_bytes-next-requires : goal.put_bytes-next-requires
unfolding codes
put_bytes-next-requires c =
    puts_room c.put_arc-named.ensures _ (rival_words _ _ _ _ c.requires)

pub put_setter-requires : goal.put_setter-requires
unfolding codes line_text
put_setter-requires c =
    puts_room (puts_then c.put_arc-named.ensures (rival_words _ _ _ _ c.requires) c.put_bytes-next.ensures) _ c.requires

pub returns : goal.returns
unfolding codes line_text
returns c =
    puts_then (puts_then c.put_arc-named.ensures (rival_words _ _ _ _ c.requires) c.put_bytes-next.ensures) c.requires
    c.put_setter.ensures
