-- The line feed goes behind the label and the number. Assumes nothing.
use Rattle.text.proofs.BufferLaws.{puts_byte}
use Rattle.text.specs.Lines.{line_feed}
use Rattle.why_text.proofs.grouped.put_amount_line.Goals as goal

pub returns : goal.returns
returns c = puts_byte c.put_amount-next.ensures line_feed c.requires
