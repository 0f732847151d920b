-- What reading a price list gives (02, A3), as equations. Assumes nothing: these are definitions.
use Rattle.std.specs.Prelude.{◌≡◌, cond, List, ℕ, ◌*◌, ◌/◌, ◌%◌, eqb, length, get_or, Result, Ok, Err, unwrap_or}
use Rattle.base.specs.Lists.{tabulate, in_front}
use Rattle.instance.specs.Instance.{cell}
use Rattle.instance.specs.RefusalNumbers.{refusal_number}
use Rattle.price_format.specs.Reading.{read_list, prices_of, room_refusal}
use Rattle.price_list.specs.Lines.{TableOf}
use Rattle.price_list.specs.declared.list_refusal.Refused.{Refused}

-- 0, or the refusal of a list; of a faulty line also which it is, counted from 1, and 0 otherwise
pub record PricesRead : Type 0 where
  pub answer : ℕ
  pub line : ℕ

-- what a call tells
abbrev pub reading_told : {A : Type 0} → Result A Refused → PricesRead
reading_told (Ok _) = record { answer = 0; line = 0 }
reading_told (Err e) = record { answer = refusal_number e.refusal; line = unwrap_or e.line 0 }

-- the n times n weights of a table, tail by tail
unfoldable pub dense : (n : ℕ) → (table : List ℕ) → List ℕ
dense n ws = tabulate (n * n) (λ i. get_or ws (cell (i / n) (i % n)) 0)

-- the lines of a list, in a table
pub record ReadsTable (text : List ℕ) (n root : ℕ) (table : List ℕ) (r : PricesRead) : Type 0 where
  pub answer : r.answer ≡ (read_list n root text).answer
  pub line : r.line ≡ (read_list n root text).line
  pub holds : TableOf (read_list n root text).lines table

-- "2 and 4 for a bad count or root, 14, then by the first faulty line", and which line that is
unfoldable pub read_result : (text : List ℕ) → (n root words : ℕ) → PricesRead
read_result t n r k =
    cond (eqb (room_refusal n r k) 0) (record { answer = (read_list n r t).answer; line = (read_list n r t).line })
    (record { answer = room_refusal n r k; line = 0 })

-- "The first n times n words of a lent buffer take the prices .. later words keep their contents, and a refused list
-- leaves the buffer untouched."
pub record Reads (text : List ℕ) (n root : ℕ) (old new : List ℕ) (r : PricesRead) : Type 0 where
  pub result : r ≡ read_result text n root (length old)
  pub buffer : new ≡ cond (eqb r.answer 0) (in_front (prices_of n (read_list n root text).lines) old) old
