-- The number goes behind the label. Assumes nothing.
use Rattle.text.proofs.BufferLaws.{puts_then}
use Rattle.why_text.proofs.grouped.put_amount.Goals as goal

pub returns : goal.returns
returns c =
    puts_then c.put_bytes-next.ensures c.requires c.put_grouped.ensures
