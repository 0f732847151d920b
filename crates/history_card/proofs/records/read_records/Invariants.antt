-- `read_records` meets its contract: the loop's invariant is `Reading`. Assumes nothing.
use Rattle.instance.specs.Matrix.{unmarked}
use Rattle.history_card.proofs.RecordsLaws.{Reading}
use Rattle.history_card.proofs.records.read_records.Given as goal

abbrev pub invariant-loop-k : goal.invariant-loop-k
invariant-loop-k l = Reading l.card (unmarked l.n l.root l.weights) l.start l.count l.records l.at l.k
