-- Three pieces, one behind the other. Assumes nothing.
use Rattle.text.proofs.BufferLaws.{room_first, puts_then}
use Rattle.text.proofs.lines.put_three.Goals as goal

pub returns : goal.returns
returns c =
    puts_then (puts_then c.put_labelled-second.ensures (room_first _ c.requires) c.put_labelled-third.ensures) c.requires
    c.put_line.ensures
