-- `check_arc` is the definition, test by test. Assumes nothing.
use borrow.Author.Tests.{le-leb, lt-leb}
use Rattle.commands.specs.Commands.{arc_refusal}
use Rattle.board.proofs.changes.check_arc.Goals as goal

pub returns-then-missing : goal.returns-then-missing
unfolding arc_refusal
returns-then-missing c = simp c.if-missing.true

pub returns-then-count-ge-MAX_RECORDS : goal.returns-then-count-ge-MAX_RECORDS
unfolding arc_refusal
returns-then-count-ge-MAX_RECORDS c = simp (c.if-missing.false, le-leb _ _ c.if-count-ge-MAX_RECORDS.true)

pub returns : goal.returns
unfolding arc_refusal
returns c = simp (c.if-missing.false, lt-leb _ _ c.if-count-ge-MAX_RECORDS.false)
