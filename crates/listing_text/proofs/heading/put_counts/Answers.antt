-- One number behind the other. Assumes nothing.
use Rattle.text.specs.Lines.{codes}
use Rattle.text.proofs.BufferLaws.{puts_room, puts_then}
use Rattle.listing_text.proofs.heading.put_counts.Goals as goal

pub put_line-requires : goal.put_line-requires
unfolding codes
put_line-requires c =
    puts_room c.put_labelled-next.ensures _ c.requires

pub returns : goal.returns
unfolding codes
returns c =
    puts_then c.put_labelled-next.ensures c.requires c.put_line.ensures
