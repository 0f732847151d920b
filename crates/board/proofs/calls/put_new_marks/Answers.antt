-- `put_new_marks` is the definition, kind by kind: the cells that it names are some of the array. Assumes nothing.
use Rattle.board.specs.Changes.{Within, marks_put}
use Rattle.board.proofs.calls.put_new_marks.Goals as goal

pub bounds-marks-i : goal.bounds-marks-i
unfolding Within
bounds-marks-i c = rw c.in-OldMark.is at c.requires.0

pub put_marks-requires : goal.put_marks-requires
unfolding Within
put_marks-requires c =
    (rw c.in-OldMarks.is at c.requires.0, c.requires.1)

pub returns-in-OldMark : goal.returns-in-OldMark
unfolding marks_put
returns-in-OldMark c = rw c.in-OldMark.is

pub returns-in-OldBudget : goal.returns-in-OldBudget
unfolding marks_put
returns-in-OldBudget c = rw c.in-OldBudget.is

pub returns-in-OldMarks : goal.returns-in-OldMarks
unfolding marks_put
returns-in-OldMarks c = rw c.in-OldMarks.is c.put_marks.ensures
