-- What a merged list says of an arc, when it is read again: the weight that the school's list gives it where a line of
-- that list has the arc's tail, and otherwise the weight that the shipped list gives it. Assumes nothing.
use mathlib.Core.Path.{◌≡◌, refl, sym, ap, ◌∙◌}
use mathlib.Core.Bool.{Bool, true, false, ◌&&◌, ◌||◌, not, cond, true≢false}
use mathlib.Core.List.{List, [], ◌∷◌, ◌++◌}
use mathlib.Core.Logic.{⊎_elim}
use Prim.Native.Nat.{ℕ, zero, suc, ◌+◌, ◌*◌, ◌/◌, ◌%◌, ◌≤◌, ◌<◌}
use native.Mathlib.Nat.{eq-or-lt_of_le}
use native.Mathlib.Omega.{arith}
use lib.Arith.{digits_lt}
use lib.Dec.{ltb, leb, eqb}
use lib.ListN.{length, get_or, get_or-append}
use lib.Seq.{get_or-append-add}
use borrow.Author.Tests.{eq-eqb, ne_eqb, eqb-false, not-true}
use Rattle.base.specs.Bounded.{all_below}
use Rattle.base.specs.Lists.{any_of, join_below}
use Rattle.base.proofs.BoolLaws.{same_test, and_left, or_cases, or_left, or_right}
use Rattle.base.proofs.BoundedLaws.{all_intro}
use Rattle.base.proofs.ElementLaws.{all_of_at}
use Rattle.base.proofs.GridLaws.{grid_in, grid_at_row, grid_at_column}
use Rattle.base.proofs.ListLaws.{get_d_tabulate}
use Rattle.instance.specs.Instance.{can_be_arc}
use Rattle.instance.specs.Limits.{max_vertices, max_weight, no_arc}
use Rattle.instance.specs.Refusals.{buffer_short}
use Rattle.price_format.specs.Lines.{Line}
use Rattle.price_format.specs.Reading.{names, is_named, weight_named, prices_of, read_list, count_refusal}
use Rattle.price_format.specs.Writing.{price_at, is_written, place_ok, prices_refusal, write_refusal, arcs_only}
use Rattle.price_format.proofs.ReadingLaws.{Sound, none, more, list_sound}
use Rattle.price_format.proofs.WrittenRead.{written_read}
use Rattle.price_list.proofs.LineLaws.{named_weight}
use Rattle.price_list.proofs.RoomLaws.{room_enough}
use Rattle.price_row.specs.Row.{row_at, has_price, is_own, chosen_row, price_ok, row_used}
use Rattle.price_row.specs.Readings.{number_at}
use Rattle.price_row.proofs.RowLaws.{used_chosen}
use Rattle.price_row.proofs.ReadingsLaws.{row_number, priced_read, priced_made}
use Rattle.price_merge.specs.Rows.{rows_used}
use Rattle.price_merge.specs.Merge.{prices_in, merged_prices, merged_text, names_tail}
use Rattle.price_merge.proofs.RowsLaws.{none_refused, rows_length, rows_ok}
use Rattle.price_merge.proofs.MergeLaws.{read_enough, read_ok, merged_length}

-- LINES WITH A TAIL
named_tail : (ls : List Line) (t h : ℕ) → is_named ls t h ≡ true → names_tail ls t ≡ true
unfolding is_named names names_tail any_of
named_tail [] t h e = absurd (true≢false (sym e))
named_tail (l ∷ ls) t h e =
    ⊎_elim (λ x. or_left (eqb l.tail t) (any_of (λ m. eqb m.tail t) ls) (and_left (eqb l.tail t) (eqb l.head h) x))
    (λ x. or_right (eqb l.tail t) (any_of (λ m. eqb m.tail t) ls) (named_tail ls t h x))
    (or_cases (eqb l.tail t && eqb l.head h) (any_of (λ m. eqb m.tail t && eqb m.head h) ls) e)

tail_named : (n r : ℕ) (ls : List Line) (t : ℕ) → Sound n r ls → names_tail ls t ≡ true → (h : ℕ) × (h < n) × (is_named ls t h ≡ true)
unfolding is_named names names_tail any_of
tail_named n r [] t none e = absurd (true≢false (sym e))
tail_named n r (l ∷ ls) t (more s a) e = go (eqb l.tail t) refl e (tail_named n r ls t s)
  where
    go : (c : Bool) → eqb l.tail t ≡ c → c || any_of (λ m. eqb m.tail t) ls ≡ true
        → (any_of (λ m. eqb m.tail t) ls ≡ true → (h : ℕ) × (h < n) × (any_of (λ m. eqb m.tail t && eqb m.head h) ls ≡ true))
        → (h : ℕ) × (h < n) × ((eqb l.tail t && eqb l.head h) || any_of (λ m. eqb m.tail t && eqb m.head h) ls ≡ true)
    go true q x f =
        (l.head, a.head, or_left (eqb l.tail t && eqb l.head l.head) (any_of (λ m. eqb m.tail t && eqb m.head l.head) ls) (rw (q, eq-eqb l.head l.head refl)))
    go false q x f =
        let y = f x in
        (y.0, y.1, or_right (eqb l.tail t && eqb l.head y.0) (any_of (λ m. eqb m.tail t && eqb m.head y.0) ls) y.2)

-- A ROW OF A LIST THAT WAS READ
module _ (n r : ℕ) (text : List ℕ) (t : ℕ) (l : t < n) where
  abbrev lines : List Line
  lines = (read_list n r text).lines

  inside : t * n + n ≤ length (prices_in n r text)
  inside = let e = read_enough n r text in let g = grid_in n t n l in omega arith

  read_weight : (h : ℕ) → h < n → number_at n t (prices_in n r text) h ≡ weight_named lines t h
  unfolding prices_of
  read_weight h k =
      get_d_tabulate (n * n) (λ i. weight_named lines (i / n) (i % n)) (t * n + h) no_arc (digits_lt l k) ∙ rw (grid_at_row n t h k, grid_at_column n t h k)

  own_is_named : is_own n t (prices_in n r text) ≡ names_tail lines t
  unfolding is_own
  own_is_named =
      same_test (has_price (row_at n t (prices_in n r text))) (names_tail lines t)
      (λ e.
      let p = priced_read n t (prices_in n r text) inside e in
      let h = p.place in
      named_tail lines t h
      (sym (named_weight n r lines t h (list_sound n r text)) ∙ ap not (ne_eqb (weight_named lines t h) no_arc (λ z. p.priced (read_weight h p.inside ∙ z)))))
      (λ e.
      let f = tail_named n r lines t (list_sound n r text) e in
      let h = f.0 in
      priced_made n t (prices_in n r text) inside
      (record {
        place = h;
        inside = f.1;
        priced = λ z. eqb-false (weight_named lines t h) no_arc (not-true (eqb (weight_named lines t h) no_arc) (named_weight n r lines t h (list_sound n r text) ∙ f.2)) (sym (read_weight h f.1) ∙ z);
      }))

-- ROWS ONE BEHIND THE OTHER, by index
module _ (n : ℕ) (g : ℕ → List ℕ) where
  row_in_join : (k t h : ℕ) → ((j : ℕ) → j ≤ k → length (join_below j g) ≡ j * n) → t < k → h < n → get_or (join_below k g) (t * n + h) no_arc ≡ get_or (g t) h no_arc
  unfolding join_below
  row_in_join zero t h f l b = absurd (omega arith)
  row_in_join (suc k) t h f l b =
      ⊎_elim
      (λ (e : t ≡ k).
      let s = f k (omega arith) in
      rw e (ap (λ (i : ℕ). get_or (join_below k g ++ g k) (i + h) no_arc) (sym s) ∙ get_or-append-add (join_below k g) (g k) h no_arc))
      (λ (m : t < k).
      let s = f k (omega arith) in
      let q = grid_in n t k m in
      get_or-append (join_below k g) (g k) no_arc (t * n + h) (omega arith) ∙ row_in_join k t h (λ j c. f j (omega arith)) m b)
      (eq-or-lt_of_le {n = t} {m = k} (omega arith))

-- OF TWO LISTS
module _ (n r : ℕ) (a b : List ℕ) (small : n ≤ max_vertices) (t h : ℕ) (l : t < n) (k : h < n) where
  abbrev own : List ℕ
  own = prices_in n r a

  abbrev others : List ℕ
  others = prices_in n r b

  abbrev weight_by : (named : Bool) → ℕ
  weight_by c = cond c (weight_named (read_list n r a).lines t h) (weight_named (read_list n r b).lines t h)

  -- of the row that is used
  pub used_weight : get_or (row_used n t own others) h no_arc ≡ weight_by (names_tail (read_list n r a).lines t)
  unfolding chosen_row
  used_weight =
      ap (λ (ws : List ℕ). get_or ws h no_arc) (used_chosen n t own others (none_refused n own others small (read_enough n r a) (read_enough n r b) (read_ok n r a) (read_ok n r b) t l))
      ∙ by (is_own n t own) ∙ rw (own_is_named n r a t l)
    where
      by : (c : Bool) → get_or (cond c (row_at n t own) (row_at n t others)) h no_arc ≡ weight_by c
      by true = row_number n t own (inside n r a t l) h k ∙ read_weight n r a t l h k
      by false = row_number n t others (inside n r b t l) h k ∙ read_weight n r b t l h k

  -- and of all the rows that are used
  merged_weight : number_at n t (merged_prices n r a b) h ≡ weight_by (names_tail (read_list n r a).lines t)
  unfolding merged_prices rows_used
  merged_weight =
      row_in_join n (λ s. row_used n s own others) n t h (rows_length n own others small (read_enough n r a) (read_enough n r b) (read_ok n r a) (read_ok n r b)) l k
      ∙ used_weight

-- THE MERGED LIST
module _ (n r : ℕ) (a b : List ℕ) (small : n ≤ max_vertices) where
  abbrev merged_ps : List ℕ
  merged_ps = merged_prices n r a b

  -- each of its prices can be written
  places : all_below (n * n) (λ i. place_ok n r i (price_at merged_ps i)) ≡ true
  unfolding merged_prices place_ok is_written price_ok
  places =
      all_intro (n * n) _
      (λ i l.
      let w = price_at merged_ps i in
      let e = merged_length n r a b small in
      by (can_be_arc n r (i / n) (i % n)) (eqb w no_arc) (leb w max_weight)
      (all_of_at price_ok no_arc merged_ps i (omega arith)
      (rows_ok n (prices_in n r a) (prices_in n r b) small (read_enough n r a) (read_enough n r b) (read_ok n r a) (read_ok n r b))))
    where
      by : (c e m : Bool) → m || e ≡ true → not (c && not e) || m ≡ true
      by false e m p = refl
      by true true m p = refl
      by true false true p = refl
      by true false false p = p

  -- so it is refused for its length alone
  pub merged_answer : (k : ℕ) → count_refusal n r ≡ 0 → write_refusal n r merged_ps k ≡ cond (ltb k (length (merged_text n r a b))) buffer_short 0
  unfolding write_refusal prices_refusal
  merged_answer k c = let e = merged_length n r a b small in rw (room_enough n r (length merged_ps) c (omega arith), places)

  -- THE LAW: read again, it says of an arc what the school's list says where that names the tail, and what the shipped
  -- list says where it does not
  pub merged_says : (t h : ℕ) (l : t < n) (k : h < n)
      → weight_named (read_list n r (merged_text n r a b)).lines t h ≡ cond (can_be_arc n r t h) (weight_by n r a b small t h l k (names_tail (read_list n r a).lines t)) no_arc
  unfolding arcs_only
  merged_says t h l k =
      sym (read_weight n r (merged_text n r a b) t l h k) ∙ ap (λ (ps : List ℕ). number_at n t ps h) (written_read n r merged_ps places small)
      ∙ get_d_tabulate (n * n) (λ i. cond (can_be_arc n r (i / n) (i % n)) (price_at merged_ps i) no_arc) (t * n + h) no_arc (digits_lt l k)
      ∙ rw (grid_at_row n t h k, grid_at_column n t h k, merged_weight n r a b small t h l k)
