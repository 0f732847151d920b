-- What reading the count and the records gives. Assumes nothing: these are definitions.
use Rattle.std.specs.Prelude.{◌≡◌, cond, List, [], ℕ, ltb, length, replicate, Result, IfOk}
use Rattle.instance.specs.Limits.{max_records}
use Rattle.instance.specs.Refusals.{bad_length, bad_record}
use Rattle.instance.specs.RefusalNumbers.{answer_of}
use Rattle.instance.specs.declared.refusals.Refusal.{Refusal}
use Rattle.board.specs.ModelOf.{blank_record}
use Rattle.board.specs.Create.{stored}
use Rattle.board.specs.declared.UndoRecord.{UndoRecord}
use Rattle.history_format.specs.RecordWidths.{count_width}
use Rattle.history_format.specs.HistoryCard.{count_in, history_in}

-- THE COUNT: "3 where it runs past the end, else 27 for a count above 200"
unfoldable pub count_refusal : (bits : List ℕ) → ℕ
count_refusal bs = cond (ltb (length bs) count_width) bad_length (cond (ltb max_records (count_in bs)) bad_record 0)

pub record CountRead (bits : List ℕ) (r : Result ℕ Refusal) : Type 0 where
  pub judged : answer_of r ≡ count_refusal bits
  pub said : IfOk r (λ k. k ≡ count_in bits)

-- THE RECORDS
-- the refusal with this number; or so many records, and every place after them blank
pub record RecordsRead (refusal count : ℕ) (bits : List ℕ) (r : Result (List UndoRecord) Refusal) : Type 0 where
  pub judged : answer_of r ≡ refusal
  pub all_records : IfOk r (λ rs. rs ≡ stored (history_in count bits []) (replicate max_records blank_record))
