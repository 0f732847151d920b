-- `edmonds::cut_total` meets its contract: the loop has added the cuts from place k on. Assumes nothing.
use Rattle.edmonds.proofs.TotalLaws.{added_none, added_fits, added_more, added_all}
use Rattle.edmonds.proofs.cut_total.Goals as goal

pub loop-k-init : goal.loop-k-init
loop-k-init c = added_none _ _

pub overflow_add-sum-in-loop-k : goal.overflow_add-sum-in-loop-k
overflow_add-sum-in-loop-k c = record { fits = added_fits _ _ c.loop-k.invariant c.loop-k-test.true 4294967296 c.requires.1 }

pub loop-k-preserved : goal.loop-k-preserved
loop-k-preserved c = added_more _ _ c.loop-k.invariant c.loop-k-test.true

pub returns : goal.returns
returns c = added_all _ _ c.loop-k.invariant c.loop-k-test.false
