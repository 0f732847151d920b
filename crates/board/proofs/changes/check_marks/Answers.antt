-- `check_marks` is the definition, test by test. Assumes nothing.
use borrow.Author.Tests.{lt-ltb, le-ltb}
use Rattle.commands.specs.Heads.{heads_below}
use Rattle.commands.specs.Commands.{arc_refusal}
use Rattle.board.proofs.changes.check_marks.Goals as goal

pub returns-then-n-tail : goal.returns-then-n-tail
unfolding arc_refusal
returns-then-n-tail c = simp (le-ltb _ _ c.if-n-tail.true)

pub returns-then-not-is_below : goal.returns-then-not-is_below
unfolding arc_refusal heads_below
returns-then-not-is_below c = simp (lt-ltb _ _ c.if-n-tail.false, ← c.is_below.ensures, c.if-not-is_below.true)

pub returns : goal.returns
unfolding heads_below
returns c =
    rw (lt-ltb _ _ c.if-n-tail.false, ← c.is_below.ensures, c.if-not-is_below.false) c.check_arc.ensures
