-- Where a row lies in its list, what the call has where it is not refused for its numbers or its room, and its three
-- ways out. Assumes nothing.
use mathlib.Core.Path.{◌≡◌, refl, sym, ◌∙◌, subst}
use mathlib.Core.Bool.{Bool, true, false, ◌&&◌, ◌||◌, cond}
use mathlib.Core.List.{List, []}
use mathlib.Core.Logic.{◌≢◌}
use Prim.Native.Nat.{ℕ, ◌+◌, ◌-◌, ◌*◌}
use native.Mathlib.Omega.{arith}
use lib.Dec.{ltb, leb, eqb}
use lib.ListN.{length, take, drop}
use borrow.Author.Tests.{ltb-false, leb-false, eqb-false, le-ltb, lt-leb, ne_eqb}
use Rattle.base.specs.Lists.{any_of}
use Rattle.base.proofs.BoolLaws.{or_false_left, or_false_right, passed}
use Rattle.base.proofs.GridLaws.{grid_in}
use Rattle.base.proofs.PartLaws.{length_part}
use Rattle.instance.specs.Limits.{max_vertices, max_weight, no_arc, free, banned}
use Rattle.instance.specs.Refusals.{no_vertex, buffer_short, count_out_of_range, out_of_range}
use Rattle.instance.specs.Valid.{cell_ok}
use Rattle.price_row.specs.Row.{row_at, has_price, is_own, chosen_row, room_refusal, price_ok, row_ok, row_refusal, row_numbers, row_used, address_at, chosen_address, row_address, UsesRow}
use Rattle.price_row.specs.Readings.{Sized}

-- a price or no link is what a cell without a mark may hold
pub unmarked_ok : (w : ℕ) → cell_ok w free ≡ price_ok w
unfolding cell_ok price_ok
unmarked_ok w = by (leb w max_weight) (eqb w no_arc)
  where
    by : (s t : Bool) → cond s (leb free banned) (t && eqb free free) ≡ s || t
    by true t = refl
    by false true = refl
    by false false = refl

-- WHERE A ROW LIES
pub part_is_row : (n t : ℕ) (ps : List ℕ) → take (t * n + n - t * n) (drop (t * n) ps) ≡ row_at n t ps
unfolding row_at
part_is_row n t ps = let e : t * n + n - t * n ≡ n = omega arith in rw e

-- WHAT IS NOT REFUSED for its numbers or its room
pub room_passed : (n t a b : ℕ) → room_refusal n t a b ≡ 0 → Sized n t a b
unfolding room_refusal
room_passed n t a b e =
    let x = passed (eqb n 0 || ltb max_vertices n) 28 _ e in
    let y = passed (leb n t) 8 _ x.1 in
    let z = passed (ltb a (n * n) || ltb b (n * n)) 13 0 y.1 in
    record {
      some = omega (arith, eqb-false n 0 (or_false_left (eqb n 0) (ltb max_vertices n) x.0));
      small = ltb-false max_vertices n (or_false_right (eqb n 0) (ltb max_vertices n) x.0);
      below = leb-false n t y.0;
      first = ltb-false a (n * n) (or_false_left (ltb a (n * n)) (ltb b (n * n)) z.0);
      second = ltb-false b (n * n) (or_false_right (ltb a (n * n)) (ltb b (n * n)) z.0);
    }

pub room_zero : (n t a b : ℕ) → Sized n t a b → room_refusal n t a b ≡ 0
unfolding room_refusal
room_zero n t a b f =
    let d : n ≢ 0 = λ e. let s = f.some in omega arith in
    rw (ne_eqb n 0 d, le-ltb max_vertices n f.small, lt-leb n t f.below, le-ltb a (n * n) f.first, le-ltb b (n * n) f.second)

-- THE ROW THAT IS CHOSEN
module _ (n t : ℕ) (a b : List ℕ) where
  pub used_chosen : row_refusal n t a b ≡ 0 → row_used n t a b ≡ chosen_row n t a b
  unfolding row_used
  used_chosen e = rw e

  -- it has n numbers
  pub chosen_whole : Sized n t (length a) (length b) → length (chosen_row n t a b) ≡ n
  unfolding chosen_row row_at
  chosen_whole f =
      let i = grid_in n t n f.below in
      let x = f.first in
      let y = f.second in
      by (is_own n t a) (length_part (t * n) n a (omega arith)) (length_part (t * n) n b (omega arith))
    where
      by : (c : Bool) → length (row_at n t a) ≡ n → length (row_at n t b) ≡ n → length (cond c (row_at n t a) (row_at n t b)) ≡ n
      by true x y = x
      by false x y = y

module _ (n t : ℕ) (a b : List ℕ) (p q : ℕ × ℕ) where
  pub chosen_own : has_price (row_at n t a) ≡ true → (row_at n t a ≡ chosen_row n t a b) × (address_at (t * n) p ≡ chosen_address n t a p q)
  unfolding chosen_row chosen_address is_own
  chosen_own h = (rw h, rw h)

  pub chosen_shipped : has_price (row_at n t a) ≡ false → (row_at n t b ≡ chosen_row n t a b) × (address_at (t * n) q ≡ chosen_address n t a p q)
  unfolding chosen_row chosen_address is_own
  chosen_shipped h = (rw h, rw h)

  -- THE THREE WAYS OUT
  abbrev room : ℕ
  room = room_refusal n t (length a) (length b)

  -- the call is refused: the empty part
  pub uses_nothing : (r : ℕ) → r ≡ row_refusal n t a b → r ≢ 0 → UsesRow a b p q n t r [] q
  unfolding row_used row_address
  uses_nothing r e d =
      let z : eqb (row_refusal n t a b) 0 ≡ false = ne_eqb (row_refusal n t a b) 0 (λ y. d (e ∙ y)) in
      record { number = e; numbers = rw z; stands = rw z }

  -- as the program has it: the part of no number, from the first one on
  uses_empty_part : (r : ℕ) → r ≡ row_refusal n t a b → r ≢ 0 → UsesRow a b p q n t r [] (address_at 0 q)
  uses_empty_part r e d = let z : 0 * 4 + q.1 ≡ q.1 = omega arith in subst (λ (k : ℕ). UsesRow a b p q n t r [] (q.0, k)) (sym z) (uses_nothing r e d)

  pub uses_refused : (r : ℕ) → r ≡ room → r ≢ 0 → UsesRow a b p q n t r [] (address_at 0 q)
  unfolding row_refusal
  uses_refused r e d = uses_empty_part r (rw (ne_eqb room 0 (λ y. d (e ∙ y)), e)) d

  pub uses_out_of_range : room ≡ 0 → row_ok (chosen_row n t a b) ≡ false → UsesRow a b p q n t out_of_range [] (address_at 0 q)
  unfolding row_refusal
  uses_out_of_range z k = uses_empty_part out_of_range (rw (z, k)) (λ y. absurd (omega (arith, y)))

  pub uses_chosen : room ≡ 0 → row_ok (chosen_row n t a b) ≡ true → UsesRow a b p q n t 0 (chosen_row n t a b) (chosen_address n t a p q)
  unfolding row_refusal row_used row_address
  uses_chosen z k = record { number = rw (z, k); numbers = rw (z, k); stands = rw (z, k) }

  -- a refusal hands back nothing, at the start of the shipped list
  pub uses_empty : {k : ℕ} {row : List ℕ} {at : ℕ × ℕ} → UsesRow a b p q n t k row at → k ≢ 0 → (row ≡ []) × (at ≡ q)
  unfolding row_used row_address
  uses_empty x d =
      let z : eqb (row_refusal n t a b) 0 ≡ false = ne_eqb (row_refusal n t a b) 0 (λ y. d (x.number ∙ y)) in
      (x.numbers ∙ rw z, x.stands ∙ rw z)

-- ITS NUMBERS
abbrev by_tests : (count tail room row : Bool) → ℕ
by_tests c d e f =
    let early = cond c count_out_of_range (cond d no_vertex (cond e buffer_short 0)) in cond (eqb early 0) (cond f 0 out_of_range) early

pub row_listed : (n t : ℕ) (a b : List ℕ) → any_of (eqb (row_refusal n t a b)) row_numbers ≡ true
unfolding row_refusal room_refusal any_of
row_listed n t a b =
    by (eqb n 0 || ltb max_vertices n) (leb n t) (ltb (length a) (n * n) || ltb (length b) (n * n)) (row_ok (chosen_row n t a b))
  where
    by : (c d e f : Bool) → any_of (eqb (by_tests c d e f)) row_numbers ≡ true
    by true d e f = refl
    by false true e f = refl
    by false false true f = refl
    by false false false true = refl
    by false false false false = refl
