-- One line behind the other. Assumes nothing.
use Rattle.text.proofs.BufferLaws.{room_first, puts_room, puts_then}
use Rattle.listing_text.specs.Heading.{heading_lines}
use Rattle.listing_text.proofs.heading.put_heading.Goals as goal

pub put_header-next-requires : goal.put_header-next-requires
unfolding heading_lines
put_header-next-requires c = room_first _ c.requires

pub put_ending-requires : goal.put_ending-requires
unfolding heading_lines
put_ending-requires c =
    puts_room c.put_header-next.ensures _ c.requires

pub returns : goal.returns
unfolding heading_lines
returns c =
    puts_then c.put_header-next.ensures c.requires c.put_ending.ensures
