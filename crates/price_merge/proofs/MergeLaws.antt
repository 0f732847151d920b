-- Two lists that were read: what stands in their buffers, what is written of the rows used, and the three ways out of
-- the call. Assumes nothing.
use mathlib.Core.Path.{◌≡◌, refl, sym, ap, ◌∙◌}
use mathlib.Core.Bool.{Bool, true, false, ◌||◌, cond, true≢false}
use mathlib.Core.List.{List, ◌++◌}
use mathlib.Core.Logic.{◌≢◌}
use Prim.Native.Nat.{ℕ, ◌*◌, ◌/◌, ◌%◌, ◌≤◌, ◌<◌}
use native.Mathlib.Omega.{arith}
use lib.Dec.{leb, eqb}
use lib.ListN.{length, drop, length-append, get_or-append}
use borrow.Author.Tests.{eqb-true, le-ltb, ne_eqb}
use Rattle.std.specs.Prelude.{Result, Ok, Err, MatchResult, is_ok, IsErrAnd}
use Rattle.base.specs.Bounded.{all_below}
use Rattle.base.specs.Lists.{all_of, in_front}
use Rattle.base.proofs.AllOfLaws.{all_of_tabulate}
use Rattle.base.proofs.BoundedLaws.{all_same}
use Rattle.base.proofs.JoinLaws.{join_same}
use Rattle.base.proofs.GridLaws.{square_most}
use Rattle.base.proofs.ListLaws.{length_tabulate}
use Rattle.instance.specs.Limits.{max_vertices, max_weight, no_arc, cells}
use Rattle.price_format.specs.Reading.{weight_named, prices_of, read_list, room_refusal}
use Rattle.price_format.specs.Writing.{price_at, place_text, list_text, place_ok, prices_refusal, write_refusal}
use Rattle.price_format.proofs.ReadingLaws.{list_sound, sound_ok}
use Rattle.price_list.specs.Reads.{PricesRead, reading_told, read_result, Reads}
use Rattle.price_list.specs.Writes.{ListWritten, writing_told, write_result}
use Rattle.price_list.proofs.RoomLaws.{room_count, count_small}
use Rattle.text.specs.Buffer.{Room, Puts}
use Rattle.text.proofs.BufferLaws.{puts_filled}
use Rattle.price_row.specs.Row.{price_ok}
use Rattle.instance.specs.declared.refusals.Refusal.{Refusal}
use Rattle.price_list.specs.declared.list_refusal.Refused.{Refused}
use Rattle.instance.proofs.RefusalLaws.{not_0}
use Rattle.price_merge.specs.declared.merge.MergeRefused.{MergeRefused}
use Rattle.price_merge.specs.declared.merge.MergeRefused.TheVariants.{School, Shipped, Merged}
use Rattle.price_merge.specs.Rows.{rows_used}
use Rattle.price_merge.specs.Merge.{ListsMerged, merging_told, prices_in, merged_prices, merged_text, merged, Merges}
use Rattle.price_merge.proofs.RowsLaws.{rows_whole, rows_front}

-- PRICES WRITTEN: words behind them do not count
module _ (n r : ℕ) (ps rest : List ℕ) (e : length ps ≡ n * n) where
  price_front : (i : ℕ) → i < n * n → price_at (ps ++ rest) i ≡ price_at ps i
  price_front i h = get_or-append ps rest no_arc i (omega arith)

  text_front : list_text n r (ps ++ rest) ≡ list_text n r ps
  unfolding list_text
  text_front = join_same (n * n) _ _ (λ i h. ap (place_text n r i) (price_front i h))

  places_front : all_below (n * n) (λ i. place_ok n r i (price_at (ps ++ rest) i)) ≡ all_below (n * n) (λ i. place_ok n r i (price_at ps i))
  places_front = all_same (n * n) _ _ (λ i h. ap (place_ok n r i) (price_front i h))

  room_front : room_refusal n r (length (ps ++ rest)) ≡ room_refusal n r (length ps)
  unfolding room_refusal
  room_front =
      let l = length-append ps rest in
      rw (le-ltb (length (ps ++ rest)) (n * n) (omega arith), le-ltb (length ps) (n * n) (omega arith))

  write_front : (k : ℕ) → write_result (ps ++ rest) n r k ≡ write_result ps n r k
  unfolding write_result write_refusal prices_refusal
  write_front k = rw (room_front, places_front, text_front)

-- A LIST THAT WAS READ
module _ (n r : ℕ) (t : List ℕ) where
  pub read_length : length (prices_in n r t) ≡ n * n
  unfolding prices_of
  read_length = length_tabulate (n * n) _

  pub read_enough : n * n ≤ length (prices_in n r t)
  read_enough = omega (arith, read_length)

  -- each number is a price or no link
  pub read_ok : all_of price_ok (prices_in n r t) ≡ true
  unfolding prices_of price_ok
  read_ok =
      let w : ℕ → ℕ = λ i. weight_named (read_list n r t).lines (i / n) (i % n) in
      all_of_tabulate price_ok (n * n) w
      (λ i. turned (eqb (w i) no_arc) (leb (w i) max_weight) (sound_ok n r (read_list n r t).lines (i / n) (i % n) (list_sound n r t)))
    where
      turned : (c d : Bool) → c || d ≡ true → d || c ≡ true
      turned c true e = refl
      turned true false e = refl
      turned false false e = e

  -- the count is right, and there is room, where the list was not refused
  room_read : (k : ℕ) → (read_result t n r k).answer ≡ 0 → room_refusal n r k ≡ 0
  unfolding read_result
  room_read k = by (eqb (room_refusal n r k) 0) refl
    where
      by : (c : Bool) → eqb (room_refusal n r k) 0 ≡ c
          → (cond {A = PricesRead} c (record { answer = (read_list n r t).answer; line = (read_list n r t).line }) (record { answer = room_refusal n r k; line = 0 })).answer ≡ 0
          → room_refusal n r k ≡ 0
      by true z e = eqb-true (room_refusal n r k) 0 z
      by false z e = e

  read_small : (k : ℕ) → (read_result t n r k).answer ≡ 0 → n ≤ max_vertices
  read_small k e = count_small n r (room_count n r k (room_read k e))

-- THE ROWS THAT ARE USED of two such lists are n times n numbers
pub merged_length : (n r : ℕ) (a b : List ℕ) → n ≤ max_vertices → length (merged_prices n r a b) ≡ n * n
unfolding merged_prices
merged_length n r a b m =
    rows_whole n (prices_in n r a) (prices_in n r b) m (read_enough n r a) (read_enough n r b) (read_ok n r a) (read_ok n r b)

-- THE THREE WAYS OUT, by what was read into two tables
module _ {a : List ℕ} (b : List ℕ) {n r : ℕ} (old : List ℕ) {own_before own : List ℕ} (x : PricesRead) (o : Reads a n r own_before own x) (l : length own_before ≡ cells) where
  first : x ≡ read_result a n r cells
  first = o.result ∙ ap (read_result a n r) l

  -- the school's list is refused
  pub school_list_refused : x.answer ≢ 0 → Merges a b n r old old (record { answer = x.answer; list = 1; line = x.line; length = 0 })
  unfolding merged
  school_list_refused d = record { result = rw (← first, ne_eqb x.answer 0 d); buffer = rw (ne_eqb x.answer 0 d) }

  module _ (z : x.answer ≡ 0) {others_before others : List ℕ} (y : PricesRead) (p : Reads b n r others_before others y) (m : length others_before ≡ cells) where
    second : y ≡ read_result b n r cells
    second = p.result ∙ ap (read_result b n r) m

    -- the shipped list is
    pub shipped_list_refused : y.answer ≢ 0 → Merges a b n r old old (record { answer = y.answer; list = 2; line = y.line; length = 0 })
    unfolding merged
    shipped_list_refused d = record { result = rw (← first, ← second, z, ne_eqb y.answer 0 d); buffer = rw (ne_eqb y.answer 0 d) }

    -- neither is
    module _ (w : y.answer ≡ 0) where
      small : n ≤ max_vertices
      small = read_small n r a cells (ap (λ (u : PricesRead). u.answer) (sym first) ∙ z)

      own_is : own ≡ in_front (prices_in n r a) own_before
      own_is = o.buffer ∙ rw z

      others_are : others ≡ in_front (prices_in n r b) others_before
      others_are = p.buffer ∙ rw w

      rows_are : rows_used n own others ≡ merged_prices n r a b
      unfolding merged_prices
      rows_are = rw (own_is, others_are) (rows_front n (prices_in n r a) (prices_in n r b) _ _ (read_length n r a) (read_length n r b))

      -- they fit into the table
      pub rows_room : (words : List ℕ) → length words ≡ cells → Room (rows_used n own others) words 0
      rows_room words e = rw rows_are (record { long_enough = omega (arith, merged_length n r a b small, e, square_most n max_vertices small) })

      -- what is written of the table is the list of the rows used
      pub both_read : {words used new : List ℕ} {next : ℕ} (v : ListWritten) → Puts (rows_used n own others) words used 0 next
          → v ≡ write_result used n r (length old) → new ≡ cond (eqb v.answer 0) (in_front (list_text n r used) old) old
          → Merges a b n r old new (record { answer = v.answer; list = 0; line = 0; length = v.length })
      unfolding merged
      both_read {words} {used} v u g h =
          let ps = merged_prices n r a b in
          let rest = drop (length ps) words in
          let whole = merged_length n r a b small in
          let q : used ≡ ps ++ rest = (puts_filled u).buffer ∙ rw rows_are in
          let k : v ≡ write_result ps n r (length old) = g ∙ rw q (write_front n r ps rest whole (length old)) in
          record { result = rw (← first, ← second, z, w, ← k); buffer = h ∙ rw q (rw (text_front n r ps rest whole)) }

-- WHAT THE CALLS TELL
module _ {A : Type 0} where
  pub read_ok_told : (x : Result A Refused) → true ≡ is_ok x → (reading_told x).answer ≡ 0
  read_ok_told (Ok a) e = refl
  read_ok_told (Err d) e = absurd (true≢false e)

  pub school_told : (x : Result A Refused) (d : MergeRefused) → MatchResult x (λ a. Err d ≡ Ok a) (λ e. d ≡ School e)
      → ((reading_told x).answer ≢ 0) × (merging_told (Err d) ≡ record { answer = (reading_told x).answer; list = 1; line = (reading_told x).line; length = 0 })
  school_told (Ok a) d p = absurd (true≢false (sym (ap is_ok p)))
  school_told (Err e) d p = (not_0 e.refusal, ap (λ (m : MergeRefused). merging_told (Err m)) p)

  pub shipped_told : (x : Result A Refused) (d : MergeRefused) → MatchResult x (λ a. Err d ≡ Ok a) (λ e. d ≡ Shipped e)
      → ((reading_told x).answer ≢ 0) × (merging_told (Err d) ≡ record { answer = (reading_told x).answer; list = 2; line = (reading_told x).line; length = 0 })
  shipped_told (Ok a) d p = absurd (true≢false (sym (ap is_ok p)))
  shipped_told (Err e) d p = (not_0 e.refusal, ap (λ (m : MergeRefused). merging_told (Err m)) p)

pub written_told : (w : Result ℕ Refusal) (y : Result ℕ MergeRefused) → MatchResult w (λ x. y ≡ Ok x) (λ e. IsErrAnd y (λ d. d ≡ Merged e))
    → merging_told y ≡ record { answer = (writing_told w).answer; list = 0; line = 0; length = (writing_told w).length }
written_told (Ok k) y p = ap merging_told p
written_told (Err r) (Ok k) p = absurd p
written_told (Err r) (Err d) p = ap (λ (m : MergeRefused). merging_told (Err m)) p

-- the list lies within the buffer
pub merged_within : (a b : List ℕ) (n r : ℕ) (old new : List ℕ) (x : ListsMerged) → Merges a b n r old new x → x.length ≤ length new
unfolding merged write_result
merged_within a b n r old new x m = by (eqb (read_result a n r cells).answer 0) (eqb (read_result b n r cells).answer 0) (eqb refusal 0) m.result m.buffer
  where
    text : List ℕ
    text = merged_text n r a b

    refusal : ℕ
    refusal = write_refusal n r (merged_prices n r a b) (length old)

    written : (c : Bool) → ListWritten
    written c = cond c (record { answer = 0; length = length text }) (record { answer = refusal; length = 0 })

    chosen : (c d e : Bool) → ListsMerged
    chosen c d e =
        cond c
        (cond d (record { answer = (written e).answer; list = 0; line = 0; length = (written e).length })
        (record { answer = (read_result b n r cells).answer; list = 2; line = (read_result b n r cells).line; length = 0 }))
        (record { answer = (read_result a n r cells).answer; list = 1; line = (read_result a n r cells).line; length = 0 })

    by : (c d e : Bool) → x ≡ chosen c d e → new ≡ cond (eqb x.answer 0) (in_front text old) old → x.length ≤ length new
    by false d e q f = let z = ap (λ (y : ListsMerged). y.length) q in omega arith
    by true false e q f = let z = ap (λ (y : ListsMerged). y.length) q in omega arith
    by true true false q f = let z = ap (λ (y : ListsMerged). y.length) q in omega arith
    by true true true q f =
        let z = ap (λ (y : ListsMerged). y.length) q in
        let g : new ≡ in_front text old = rw q at f in
        omega (arith, ap (λ (l : List ℕ). length l) g ∙ length-append text (drop (length text) old))
