-- The codes of the words are the bytes of the byte strings. Assumes nothing.
use Rattle.text.specs.Lines.{codes}
use Rattle.report_text.specs.Heading.{header_line}
use Rattle.report_text.proofs.heading.put_header.Goals as goal

pub put_three-requires : goal.put_three-requires
unfolding codes header_line
put_three-requires c = c.requires

pub returns : goal.returns
unfolding codes header_line
returns c = c.put_three.ensures
