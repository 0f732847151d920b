-- What merging two price lists as text gives, as equations: the school's own list (02, A12) and the shipped one, each
-- read as A3 has it, and the list of the rows that are used written. Assumes nothing: these are definitions.
use Rattle.std.specs.Prelude.{◌≡◌, Bool, cond, List, ℕ, eqb, length, Result, Ok, Err, unwrap_or}
use Rattle.base.specs.Lists.{any_of, in_front}
use Rattle.instance.specs.Limits.{cells}
use Rattle.instance.specs.RefusalNumbers.{refusal_number}
use Rattle.price_format.specs.Lines.{Line}
use Rattle.price_format.specs.Reading.{read_list, prices_of}
use Rattle.price_format.specs.Writing.{list_text}
use Rattle.price_list.specs.Reads.{read_result}
use Rattle.price_list.specs.Writes.{write_result}
use Rattle.price_merge.specs.Rows.{rows_used}
use Rattle.price_merge.specs.declared.merge.MergeRefused.{MergeRefused}
use Rattle.price_merge.specs.declared.merge.MergeRefused.TheVariants.{School, Shipped, Merged}

-- 0 and the length of the list; or the refusal, and of a faulty line which it is, counted from 1, and in which list: 1
-- the school's, 2 the shipped one
pub record ListsMerged : Type 0 where
  pub answer : ℕ
  pub list : ℕ
  pub line : ℕ
  pub length : ℕ

-- what a call tells
abbrev pub merging_told : Result ℕ MergeRefused → ListsMerged
merging_told (Ok k) = record { answer = 0; list = 0; line = 0; length = k }
merging_told (Err (School e)) = record { answer = refusal_number e.refusal; list = 1; line = unwrap_or e.line 0; length = 0 }
merging_told (Err (Shipped e)) = record { answer = refusal_number e.refusal; list = 2; line = unwrap_or e.line 0; length = 0 }
merging_told (Err (Merged r)) = record { answer = refusal_number r; list = 0; line = 0; length = 0 }

-- the prices of a list
abbrev pub prices_in : (n root : ℕ) → (text : List ℕ) → List ℕ
prices_in n r t = prices_of n (read_list n r t).lines

unfoldable pub merged_prices : (n root : ℕ) → (school shipped : List ℕ) → List ℕ
merged_prices n r a b = rows_used n (prices_in n r a) (prices_in n r b)

-- the list of the rows that are used
abbrev pub merged_text : (n root : ℕ) → (school shipped : List ℕ) → List ℕ
merged_text n r a b = list_text n r (merged_prices n r a b)

-- IN A TEACHER'S WORDS: a tail that a line of the school's list names gets its arcs from there, and no other; that the
-- merged list says this is `merged_says` (proofs/MergedLaws.antt)
unfoldable pub names_tail : List Line → (tail : ℕ) → Bool
names_tail ls t = any_of (λ l. eqb l.tail t) ls

-- THE CALL
-- the school's list as it is read, so that 2 and 4 come with it, then the shipped one: the refusal, which list it is,
-- and the line; then 14 for the text, and nothing else (`merged_answer` in proofs/MergedLaws.antt)
unfoldable pub merged : (school shipped : List ℕ) → (n root bytes : ℕ) → ListsMerged
merged a b n r k =
    cond (eqb (read_result a n r cells).answer 0)
    (cond (eqb (read_result b n r cells).answer 0)
    (record { answer = (write_result (merged_prices n r a b) n r k).answer; list = 0; line = 0; length = (write_result (merged_prices n r a b) n r k).length })
    (record { answer = (read_result b n r cells).answer; list = 2; line = (read_result b n r cells).line; length = 0 }))
    (record { answer = (read_result a n r cells).answer; list = 1; line = (read_result a n r cells).line; length = 0 })

-- refused, the buffer is as it was; bytes behind the list stay
pub record Merges (school shipped : List ℕ) (n root : ℕ) (old new : List ℕ) (r : ListsMerged) : Type 0 where
  pub result : r ≡ merged school shipped n root (length old)
  pub buffer : new ≡ cond (eqb r.answer 0) (in_front (merged_text n root school shipped) old) old
