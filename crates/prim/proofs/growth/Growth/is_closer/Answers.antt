-- A vertex outside has a parent below n, so that both keys can be read. Assumes nothing.
use Rattle.prim.specs.Growth.{is_closer}
use Rattle.prim.proofs.growth.Growth.is_closer.Goals as goal

pub returns-then-not-self-w : goal.returns-then-not-self-w
unfolding is_closer
returns-then-not-self-w c = rw c.if-not-self-w.true

pub returns-else-not-self-w : goal.returns-else-not-self-w
unfolding is_closer
returns-else-not-self-w c = rw c.if-not-self-w.false
