-- By the room, and the text of the report. Assumes nothing.
use Rattle.feed_planner.proofs.LookLaws.{print_short, print_text}
use Rattle.feed_planner.proofs.looking.feed_print.Goals as goal

pub returns-then-out-lt-MAX_TEXT : goal.returns-then-out-lt-MAX_TEXT
returns-then-out-lt-MAX_TEXT c = print_short _ _ _ c.if-out-lt-MAX_TEXT.true

pub returns : goal.returns
returns c =
    print_text _ _ _ _ c.report-reported.result c.if-out-lt-MAX_TEXT.false c.report-reported.ensures
