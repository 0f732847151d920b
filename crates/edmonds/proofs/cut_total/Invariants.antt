-- `edmonds::cut_total` meets its contract: the loop has added the cuts from place k on. Assumes nothing.
use Rattle.edmonds.proofs.TotalLaws.{Added}
use Rattle.edmonds.proofs.cut_total.Given as goal

abbrev pub invariant-loop-k : goal.invariant-loop-k
invariant-loop-k l = Added l.cuts l.count l.k l.sum
