-- A settled vertex has more than any key; another has a parent below n. Assumes nothing.
use Rattle.prim.specs.Growth.{outside_key}
use Rattle.prim.proofs.growth.Growth.outside_key.Goals as goal

pub returns-then-self-v : goal.returns-then-self-v
unfolding outside_key
returns-then-self-v c = rw c.if-self-v.true

pub returns : goal.returns
unfolding outside_key
returns c = rw c.if-self-v.false
