-- `put_budget_record` meets its contract: kind and budget. Assumes nothing.
use native.Mathlib.Omega.{arith}
use Rattle.history_format.proofs.RecordLaws.{length_budget}
use Rattle.history_card.proofs.PutLaws.{budget_record_bits}
use Rattle.history_card.proofs.put.put_budget_record.Goals as goal

pub put_two-requires : goal.put_two-requires
put_two-requires c =
    (rw (length_budget c.args.budget) at c.requires, omega arith, omega arith)

pub returns : goal.returns
returns c = rw (budget_record_bits c.args.budget) c.put_two.ensures
