-- Each way out answers with the tests that led there. Assumes nothing.
use borrow.Author.Tests.{lt-ltb, le-ltb, eq-eqb, ne_eqb}
use Rattle.instance.specs.Instance.{can_be_arc}
use Rattle.checks.proofs.arc.can_be_arc.Goals as goal
use Rattle.checks.proofs.arc.can_be_arc.Goals.{then-n-tail-via-then-n-tail, then-n-tail-via-else-n-tail+then-n-head}

pub returns-then-n-tail : goal.returns-then-n-tail
unfolding can_be_arc
returns-then-n-tail c =
    elim c.then-n-tail.branch [
      | then-n-tail-via-then-n-tail w ↦ simp (le-ltb _ _ w.if-n-tail.true)
      | then-n-tail-via-else-n-tail+then-n-head w ↦ simp (lt-ltb _ _ w.if-n-tail.false, le-ltb _ _ w.if-n-head.true)
    ]

pub returns-then-tail-head : goal.returns-then-tail-head
unfolding can_be_arc
returns-then-tail-head c = simp (lt-ltb _ _ c.if-n-tail.false, lt-ltb _ _ c.if-n-head.false, ne_eqb _ _ c.if-tail-head.true)

pub returns-else-tail-head : goal.returns-else-tail-head
unfolding can_be_arc
returns-else-tail-head c = simp (lt-ltb _ _ c.if-n-tail.false, lt-ltb _ _ c.if-n-head.false, eq-eqb _ _ c.if-tail-head.false)
