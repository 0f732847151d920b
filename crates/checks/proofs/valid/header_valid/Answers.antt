-- `header_valid` is the definition, test by test. Assumes nothing.
use borrow.Author.Tests.{lt-ltb, le-ltb, le-leb, lt-leb}
use Rattle.instance.specs.Valid.{header_valid}
use Rattle.checks.proofs.valid.header_valid.Goals as goal
use Rattle.checks.proofs.valid.header_valid.Goals.{then-n-lt1-via-then-n-lt1, then-n-lt1-via-else-n-lt1+then-n-gt-MAX_VERTICES}

pub returns-then-n-lt1 : goal.returns-then-n-lt1
unfolding header_valid
returns-then-n-lt1 c =
    elim c.then-n-lt1.branch [
      | then-n-lt1-via-then-n-lt1 w ↦ simp (lt-leb _ _ w.if-n-lt1.true)
      | then-n-lt1-via-else-n-lt1+then-n-gt-MAX_VERTICES w ↦ simp (le-leb _ _ w.if-n-lt1.false, lt-leb _ _ w.if-n-gt-MAX_VERTICES.true)
    ]

pub returns-then-root-n : goal.returns-then-root-n
unfolding header_valid
returns-then-root-n c = simp (le-leb _ _ c.if-n-lt1.false, le-leb _ _ c.if-n-gt-MAX_VERTICES.false, lt-ltb _ _ c.if-root-n.true)

pub returns-else-root-n : goal.returns-else-root-n
unfolding header_valid
returns-else-root-n c = simp (le-leb _ _ c.if-n-lt1.false, le-leb _ _ c.if-n-gt-MAX_VERTICES.false, le-ltb _ _ c.if-root-n.false)
