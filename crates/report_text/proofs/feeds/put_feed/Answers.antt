-- The codes of the words are the bytes of the byte strings. Assumes nothing.
use Rattle.text.specs.Lines.{codes}
use Rattle.report_text.specs.Feeds.{feed_line}
use Rattle.report_text.proofs.feeds.put_feed.Goals as goal

pub put_three-requires : goal.put_three-requires
unfolding codes feed_line
put_three-requires c = c.requires

pub returns : goal.returns
unfolding codes feed_line
returns c = c.put_three.ensures
