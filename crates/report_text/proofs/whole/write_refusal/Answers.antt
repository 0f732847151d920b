-- A line from the beginning on. Assumes nothing.
use Rattle.text.specs.Lines.{codes}
use Rattle.report_text.specs.Whole.{refused_text}
use Rattle.text.proofs.BufferLaws.{room_whole, puts_filled}
use Rattle.report_text.proofs.whole.write_refusal.Goals as goal

pub put_line-requires : goal.put_line-requires
unfolding codes refused_text
put_line-requires c = room_whole (refused_text c.args.answer) _ c.requires

pub returns : goal.returns
unfolding codes refused_text
returns c = puts_filled c.put_line.ensures
