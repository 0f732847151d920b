-- The line feed goes behind the word and the number. Assumes nothing.
use Rattle.text.proofs.BufferLaws.{puts_byte}
use Rattle.text.specs.Lines.{line_feed}
use Rattle.text.proofs.lines.put_line.Goals as goal

pub returns : goal.returns
returns c = puts_byte c.put_labelled-next.ensures line_feed c.requires
