-- `records_valid` judges every record of the history, the oldest first. The invariant: those judged so far may stand.
-- Assumes nothing.
use mathlib.Core.Path.{◌≡◌}
use mathlib.Core.Bool.{true}
use Rattle.base.specs.Lists.{all_of}
use Rattle.instance.specs.Matrix.{unmarked}
use Rattle.commands.specs.Valid.{record_ok}
use Rattle.board.specs.ModelOf.{history_of}
use Rattle.board.proofs.valid.records_valid.Given as goal

abbrev pub invariant-loop-e : goal.invariant-loop-e
invariant-loop-e l = all_of (record_ok (unmarked l.b.n l.b.root l.b.weights)) (history_of l.e-index l.b.records) ≡ true
