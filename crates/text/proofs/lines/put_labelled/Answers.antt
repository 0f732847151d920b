-- The number goes behind the word. Assumes nothing.
use Rattle.text.proofs.BufferLaws.{puts_then}
use Rattle.text.proofs.lines.put_labelled.Goals as goal

pub returns : goal.returns
returns c =
    puts_then c.put_bytes-next.ensures c.requires c.put_decimal.ensures
