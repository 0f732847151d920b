-- One line for each way a listing can end. Assumes nothing.
use Rattle.text.specs.Lines.{codes}
use Rattle.listing_text.specs.Heading.{ending_label, ending_line}
use Rattle.listing_text.proofs.heading.put_ending.Goals as goal

pub put_counts-requires : goal.put_counts-requires
unfolding codes ending_label ending_line
put_counts-requires c = rw c.in-Complete.is at c.requires

pub put_counts-requires-in-AtLimit : goal.put_counts-requires-in-AtLimit
unfolding codes ending_label ending_line
put_counts-requires-in-AtLimit c = rw c.in-AtLimit.is at c.requires

pub put_counts-requires-in-NoRoom : goal.put_counts-requires-in-NoRoom
unfolding codes ending_label ending_line
put_counts-requires-in-NoRoom c = rw c.in-NoRoom.is at c.requires

pub returns-in-Complete : goal.returns-in-Complete
unfolding codes ending_label ending_line
returns-in-Complete c = rw c.in-Complete.is c.put_counts.ensures

pub returns-in-AtLimit : goal.returns-in-AtLimit
unfolding codes ending_label ending_line
returns-in-AtLimit c = rw c.in-AtLimit.is c.put_counts-in-AtLimit.ensures

pub returns-in-NoRoom : goal.returns-in-NoRoom
unfolding codes ending_label ending_line
returns-in-NoRoom c = rw c.in-NoRoom.is c.put_counts-in-NoRoom.ensures
