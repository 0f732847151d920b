-- `check_mark` is the definition, test by test. Assumes nothing.
use mathlib.Core.Path.{◌≡◌}
use mathlib.Core.Logic.{◌⊎◌, inl, inr}
use Prim.Native.Nat.{◌≤◌, ◌<◌}
use borrow.Author.Tests.{lt-ltb, le-ltb}
use Rattle.instance.specs.Refusals.{no_vertex}
use Rattle.instance.specs.Matrix.{unmarked}
use Rattle.commands.specs.Commands.{arc_refusal, mark_refusal}
use Rattle.board.proofs.changes.check_mark.Goals as goal

pub returns-then-n-tail : goal.returns-then-n-tail
unfolding mark_refusal arc_refusal unmarked
returns-then-n-tail c = go c.then-n-tail.either
  where
    go : (c.args.n ≤ c.args.tail) ⊎ ((c.args.tail < c.args.n) × (c.args.n ≤ c.args.head)) → no_vertex ≡ mark_refusal (unmarked c.args.n c.args.root c.args.weights.now) c.args.count c.args.tail c.args.head
    go (inl l) = simp (le-ltb _ _ l)
    go (inr p) = simp (lt-ltb _ _ p.0, le-ltb _ _ p.1)

pub returns : goal.returns
unfolding mark_refusal unmarked
returns c = rw (lt-ltb _ _ c.if-n-tail.false, lt-ltb _ _ c.if-n-head.false, ← c.is_arc-arc.ensures) c.check_arc.ensures
