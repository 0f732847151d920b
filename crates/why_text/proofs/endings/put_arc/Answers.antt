-- The arrow and the head go behind the label and the tail. Assumes nothing.
use Rattle.text.proofs.BufferLaws.{puts_then}
use Rattle.why_text.proofs.endings.put_arc.Goals as goal

pub returns : goal.returns
returns c =
    puts_then c.put_labelled-next.ensures c.requires c.put_labelled.ensures
