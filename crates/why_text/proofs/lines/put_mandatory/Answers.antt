-- What the total is held to goes behind it. Assumes nothing.
use Rattle.text.specs.Lines.{codes}
use Rattle.text.proofs.BufferLaws.{room_first, puts_room, puts_then}
use Rattle.why_text.specs.Lines.{line_text}
use Rattle.why_text.proofs.lines.put_mandatory.Goals as goal

pub put_amount-next-requires : goal.put_amount-next-requires
unfolding codes line_text
put_amount-next-requires c = room_first _ c.requires

pub put_limit-requires : goal.put_limit-requires
unfolding codes line_text
put_limit-requires c =
    puts_room c.put_amount-next.ensures _ c.requires

pub returns : goal.returns
unfolding codes line_text
returns c =
    puts_then c.put_amount-next.ensures c.requires c.put_limit.ensures
