-- THE SCHOOL'S OWN PRICES FIRST (02, A12), of the call: whatever it was handed, its answer, the row that it hands back
-- and where that stands are those that document 02 has in words, case by case. And with A3's reader: of two price lists
-- that were read, no tail below the count is refused, and its row gives an arc what the school's list says where that
-- names the tail, and what the shipped list says where it does not. Assumes nothing.
use mathlib.Core.Path.{◌≡◌, ap, ◌∙◌}
use mathlib.Core.Bool.{cond}
use mathlib.Core.List.{List}
use Prim.Native.Nat.{ℕ, ◌≤◌, ◌<◌}
use lib.ListN.{length, get_or, drop}
use Rattle.base.specs.Lists.{in_front}
use Rattle.instance.specs.Limits.{max_vertices, no_arc}
use Rattle.price_format.specs.Lines.{Line}
use Rattle.price_format.specs.Reading.{weight_named, read_list}
use Rattle.price_list.specs.Reads.{PricesRead}
use Rattle.price_list.proofs.Learnt.{PricesAreRead, prices_read}
use Rattle.price_list.proofs.RoomLaws.{room_count, count_small}
use Rattle.price_row.specs.Row.{row_refusal, row_used}
use Rattle.price_row.specs.Readings.{RowReads}
use Rattle.price_row.proofs.ReadingsLaws.{reads}
use Rattle.price_row.proofs.Learnt.{HandedBack, handed_back}
use Rattle.price_merge.specs.Merge.{prices_in, names_tail}
use Rattle.price_merge.proofs.RowsLaws.{none_refused, refusal_front, used_front}
use Rattle.price_merge.proofs.MergeLaws.{read_length, read_enough, read_ok}
use Rattle.price_merge.proofs.MergedLaws.{used_weight}
use Rattle.demands.proofs.PriceNumbers.{read_passed}

-- IN 02'S WORDS
pub own_prices_first : {a b : List ℕ} {p q : ℕ × ℕ} {n tail k : ℕ} {row : List ℕ} {at : ℕ × ℕ} → HandedBack a b p q n tail k row at → RowReads a b p q n tail k row at
own_prices_first {a} {b} {p} {q} {n} {tail} u = let x = handed_back u in rw (x.number, x.numbers, x.stands) (reads a b p q n tail)

-- OF TWO LISTS THAT WERE READ
pub record ReadRow (n tail : ℕ) (school shipped : List Line) (answer : ℕ) (row : List ℕ) : Type 0 where
  pub accepted : answer ≡ 0
  pub weights : (h : ℕ) → h < n → get_or row h no_arc ≡ cond (names_tail school tail) (weight_named school tail h) (weight_named shipped tail h)

-- what reading leaves in a caller's words
module _ {t : List ℕ} {n root : ℕ} {ps ps' : List ℕ} {r : PricesRead} (x : PricesAreRead t n root ps ps' r) (z : r.answer ≡ 0) where
  words_are : ps' ≡ in_front (prices_in n root t) ps
  words_are = (prices_read x).buffer ∙ rw z

  small : n ≤ max_vertices
  small = count_small n root (room_count n root (length ps) (read_passed t n root ps ps' r (prices_read x) z).0)

pub read_rows : {t s : List ℕ} {n root : ℕ} {ps ps' qs qs' : List ℕ} {r v : PricesRead} {p q : ℕ × ℕ} {tail k : ℕ} {row : List ℕ} {at : ℕ × ℕ}
    → PricesAreRead t n root ps ps' r → r.answer ≡ 0 → PricesAreRead s n root qs qs' v → v.answer ≡ 0 → HandedBack ps' qs' p q n tail k row at → tail < n
    → ReadRow n tail (read_list n root t).lines (read_list n root s).lines k row
read_rows {t} {s} {n} {root} {ps} {ps'} {qs} {qs'} {tail = tail} {k = k} {row = row} x z y w u l =
    let a = prices_in n root t in
    let b = prices_in n root s in
    let h = handed_back u in
    let m = small x z in
    let none = none_refused n a b m (read_enough n root t) (read_enough n root s) (read_ok n root t) (read_ok n root s) tail l in
    let e : row_refusal n tail ps' qs' ≡ row_refusal n tail a b =
    rw (words_are x z, words_are y w) (refusal_front n a b (drop (length a) ps) (drop (length b) qs) (read_length n root t) (read_length n root s) tail l) in
    let f : row_used n tail ps' qs' ≡ row_used n tail a b =
    rw (words_are x z, words_are y w) (used_front n a b (drop (length a) ps) (drop (length b) qs) (read_length n root t) (read_length n root s) tail l) in
    record {
      accepted = h.number ∙ e ∙ none;
      weights = λ j c. ap (λ (ws : List ℕ). get_or ws j no_arc) (h.numbers ∙ f) ∙ used_weight n root t s m tail j l c;
    }
