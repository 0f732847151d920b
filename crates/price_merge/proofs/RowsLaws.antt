-- Rows one behind the other: that none of them is refused where each number is a price or no link, that they are then n
-- times n numbers, and that words behind the lists do not count. Assumes nothing.
use mathlib.Core.Path.{◌≡◌, refl, sym, ap, ◌∙◌}
use mathlib.Core.Bool.{Bool, true, false, cond}
use mathlib.Core.List.{List, [], ◌++◌}
use Prim.Native.Nat.{ℕ, zero, suc, ◌+◌, ◌*◌, ◌≤◌, ◌<◌}
use native.Mathlib.Nat.{suc-mul, zero-mul}
use native.Mathlib.Omega.{arith}
use lib.Dec.{eqb}
use lib.ListN.{length, drop, length-append, length-drop}
use lib.Seq.{take-append-le, drop-append-le}
use borrow.Author.Tests.{le-ltb}
use Rattle.base.specs.Lists.{all_of, join_below}
use Rattle.base.proofs.AllOfLaws.{all_of_append, all_of_take, all_of_drop}
use Rattle.base.proofs.GridLaws.{grid_in}
use Rattle.base.proofs.JoinLaws.{join_same}
use Rattle.instance.specs.Limits.{max_vertices}
use Rattle.price_row.specs.Row.{row_at, is_own, chosen_row, room_refusal, price_ok, row_ok, row_refusal, row_used}
use Rattle.price_row.specs.Readings.{Sized}
use Rattle.price_row.proofs.RowLaws.{room_zero, used_chosen, chosen_whole}
use Rattle.price_merge.specs.Rows.{rows_used}

-- LISTS OF PRICES AND NO LINK
module _ (n : ℕ) (a b : List ℕ) (small : n ≤ max_vertices) (x : n * n ≤ length a) (y : n * n ≤ length b)
    (p : all_of price_ok a ≡ true) (q : all_of price_ok b ≡ true) where
  fits : (t : ℕ) → t < n → Sized n t (length a) (length b)
  fits t l = record { some = omega arith; small = small; below = l; first = x; second = y }

  pub none_refused : (t : ℕ) → t < n → row_refusal n t a b ≡ 0
  unfolding row_refusal chosen_row row_at row_ok
  none_refused t l = rw (room_zero n t (length a) (length b) (fits t l), ok (is_own n t a))
    where
      ok : (c : Bool) → row_ok (cond c (row_at n t a) (row_at n t b)) ≡ true
      ok true = all_of_take price_ok n (drop (t * n) a) (all_of_drop price_ok (t * n) a p)
      ok false = all_of_take price_ok n (drop (t * n) b) (all_of_drop price_ok (t * n) b q)

  row_length : (t : ℕ) → t < n → length (row_used n t a b) ≡ n
  row_length t l = ap (λ (r : List ℕ). length r) (used_chosen n t a b (none_refused t l)) ∙ chosen_whole n t a b (fits t l)

  pub rows_length : (k : ℕ) → k ≤ n → length (join_below k (λ t. row_used n t a b)) ≡ k * n
  unfolding join_below
  rows_length zero l = sym (zero-mul n)
  rows_length (suc k) l =
      let e = rows_length k (omega arith) in
      let r = row_length k (omega arith) in
      let s = suc-mul k n in
      length-append (join_below k (λ t. row_used n t a b)) (row_used n k a b) ∙ omega (arith, e, r, s)

  -- each of their numbers is a price or no link
  rows_ok_below : (k : ℕ) → all_of price_ok (join_below k (λ t. row_used n t a b)) ≡ true
  unfolding join_below all_of row_used chosen_row row_at
  rows_ok_below zero = refl
  rows_ok_below (suc k) =
      all_of_append price_ok (join_below k (λ t. row_used n t a b)) (row_used n k a b) (rows_ok_below k) (by (eqb (row_refusal n k a b) 0) (is_own n k a))
    where
      by : (c d : Bool) → all_of price_ok (cond c (cond d (row_at n k a) (row_at n k b)) []) ≡ true
      by false d = refl
      by true true = all_of_take price_ok n (drop (k * n) a) (all_of_drop price_ok (k * n) a p)
      by true false = all_of_take price_ok n (drop (k * n) b) (all_of_drop price_ok (k * n) b q)

  pub rows_ok : all_of price_ok (rows_used n a b) ≡ true
  unfolding rows_used
  rows_ok = rows_ok_below n

  pub rows_whole : length (rows_used n a b) ≡ n * n
  unfolding rows_used
  rows_whole = rows_length n (omega arith)

-- WORDS BEHIND THE LISTS
row_front : (n t : ℕ) (a c : List ℕ) → t * n + n ≤ length a → row_at n t (a ++ c) ≡ row_at n t a
unfolding row_at
row_front n t a c l =
    let d = length-drop (t * n) a in
    rw (drop-append-le (t * n) a c (omega arith)) (take-append-le n (drop (t * n) a) c (omega arith))

module _ (n : ℕ) (a b c d : List ℕ) (x : length a ≡ n * n) (y : length b ≡ n * n) where
  room_front : (t : ℕ) → room_refusal n t (length (a ++ c)) (length (b ++ d)) ≡ room_refusal n t (length a) (length b)
  unfolding room_refusal
  room_front t =
      let p = length-append a c in
      let q = length-append b d in
      rw (
        le-ltb (length (a ++ c)) (n * n) (omega arith),
        le-ltb (length (b ++ d)) (n * n) (omega arith),
        le-ltb (length a) (n * n) (omega arith),
        le-ltb (length b) (n * n) (omega arith),
      )

  chosen_front : (t : ℕ) → t < n → chosen_row n t (a ++ c) (b ++ d) ≡ chosen_row n t a b
  unfolding chosen_row is_own
  chosen_front t l = let i = grid_in n t n l in rw (row_front n t a c (omega arith), row_front n t b d (omega arith))

  pub refusal_front : (t : ℕ) → t < n → row_refusal n t (a ++ c) (b ++ d) ≡ row_refusal n t a b
  unfolding row_refusal
  refusal_front t l = rw (room_front t, chosen_front t l)

  pub used_front : (t : ℕ) → t < n → row_used n t (a ++ c) (b ++ d) ≡ row_used n t a b
  unfolding row_used
  used_front t l = rw (refusal_front t l, chosen_front t l)

  pub rows_front : rows_used n (a ++ c) (b ++ d) ≡ rows_used n a b
  unfolding rows_used
  rows_front = join_same n (λ t. row_used n t (a ++ c) (b ++ d)) (λ t. row_used n t a b) used_front
