-- What reading a record gives. Assumes nothing: these are definitions.
use Rattle.std.specs.Prelude.{◌≡◌, List, ℕ, ◌+◌, Result, IfOk}
use Rattle.instance.specs.RefusalNumbers.{answer_of}
use Rattle.instance.specs.declared.refusals.Refusal.{Refusal}
use Rattle.board.specs.Calls.{record_of}
use Rattle.board.specs.declared.UndoRecord.{UndoRecord}
use Rattle.history_format.specs.RecordBits.{record_length, replaced_in}
use Rattle.history_card.specs.declared.record.RecordRead.{RecordRead}

-- the refusal with this number; or what the record says, as the program stores it, and where it ends
pub record ReadsRecord (refusal : ℕ) (bits : List ℕ) (at : ℕ) (r : Result RecordRead Refusal) : Type 0 where
  pub judged : answer_of r ≡ refusal
  pub said : IfOk r (λ x. ◌≡◌ {A = UndoRecord} (record { replaced = x.replaced }) (record_of (replaced_in bits)))
  pub its_end : IfOk r (λ x. x.next ≡ at + record_length bits)
