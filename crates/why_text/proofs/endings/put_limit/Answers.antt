-- The budget goes behind the cheapest total. Assumes nothing.
use Rattle.text.specs.Lines.{codes}
use Rattle.text.proofs.BufferLaws.{room_first, puts_room, puts_then}
use Rattle.why_text.specs.Endings.{limit_end}
use Rattle.why_text.proofs.endings.put_limit.Goals as goal

pub put_least-next-requires : goal.put_least-next-requires
unfolding limit_end
put_least-next-requires c = room_first _ c.requires

pub put_amount_line-requires : goal.put_amount_line-requires
unfolding codes limit_end
put_amount_line-requires c =
    puts_room c.put_least-next.ensures _ c.requires

pub returns : goal.returns
unfolding codes limit_end
returns c =
    puts_then c.put_least-next.ensures c.requires c.put_amount_line.ensures
