-- The place of a line among n times n prices, feeder by feeder: which line names it, and that lines in written order
-- have ascending places. Assumes nothing.
use mathlib.Core.Path.{◌≡◌, refl, sym, ap, ◌∙◌}
use mathlib.Core.Bool.{Bool, true, false, ◌&&◌, ◌||◌}
use mathlib.Core.Logic.{⊎_elim}
use mathlib.Core.List.{List, [], ◌∷◌}
use Prim.Native.Nat.{ℕ, ◌+◌, ◌*◌, ◌/◌, ◌%◌, ◌≤◌, ◌<◌}
use native.Mathlib.Omega.{arith}
use native.Mathlib.Nat.{div-add-mod'}
use lib.Dec.{ltb, eqb}
use borrow.Author.Tests.{ltb-true, ltb-false, lt-ltb, eqb-true, eq-eqb, ne_eqb}
use Rattle.base.proofs.BoolLaws.{is_false, and_left, and_right, and_both, same_test, or_cases}
use Rattle.base.proofs.GridLaws.{grid_at_row, grid_at_column, grid_in}
use Rattle.instance.specs.Limits.{no_arc}
use Rattle.price_format.specs.Lines.{Line}
use Rattle.price_format.specs.Reading.{names, weight_named, comes_before, in_order}
use Rattle.price_format.proofs.ReadingLaws.{Sound, more}

abbrev pub place : (n : ℕ) → Line → ℕ
place n l = l.tail * n + l.head

-- a line names its own place, and no other
pub names_place : (n : ℕ) (l : Line) (i : ℕ) → l.head < n → names l (i / n) (i % n) ≡ eqb (place n l) i
unfolding names
names_place n l i h =
    same_test (eqb l.tail (i / n) && eqb l.head (i % n)) (eqb (place n l) i)
    (λ e.
    let t = eqb-true l.tail (i / n) (and_left (eqb l.tail (i / n)) (eqb l.head (i % n)) e) in
    let d = eqb-true l.head (i % n) (and_right (eqb l.tail (i / n)) (eqb l.head (i % n)) e) in
    eq-eqb (place n l) i (rw (t, d) (div-add-mod' i n)))
    (λ e.
    let p = eqb-true (place n l) i e in
    and_both (eqb l.tail (i / n)) (eqb l.head (i % n)) (eq-eqb l.tail (i / n) (sym (grid_at_row n l.tail l.head h) ∙ ap (λ (j : ℕ). j / n) p))
    (eq-eqb l.head (i % n) (sym (grid_at_column n l.tail l.head h) ∙ ap (λ (j : ℕ). j % n) p)))

-- a line that comes before another has a lower place
pub before_place : (n : ℕ) (l m : Line) → l.head < n → comes_before l m ≡ true → place n l < place n m
unfolding comes_before
before_place n l m h e =
    ⊎_elim (λ (t : ltb l.tail m.tail ≡ true). let u = ltb-true l.tail m.tail t in let p = grid_in n l.tail m.tail u in omega arith)
    (λ (t : eqb l.tail m.tail && ltb l.head m.head ≡ true).
    let s = eqb-true l.tail m.tail (and_left (eqb l.tail m.tail) (ltb l.head m.head) t) in
    let d = ltb-true l.head m.head (and_right (eqb l.tail m.tail) (ltb l.head m.head) t) in
    rw s (omega arith))
    (or_cases (ltb l.tail m.tail) (eqb l.tail m.tail && ltb l.head m.head) e)

-- every place of lines in order is below a bound, if the latest line's is
abbrev pub Below : (n m : ℕ) → List Line → Type 0
Below n m [] = Unit
Below n m (l ∷ ls) = place n l < m

module _ (n r : ℕ) where
  pub order_rest : (l : Line) (ls : List Line) → in_order (l ∷ ls) ≡ true → in_order ls ≡ true
  unfolding in_order
  order_rest l [] o = refl
  order_rest m (l ∷ ls) o = and_right (comes_before l m) (in_order (l ∷ ls)) o

  pub order_below : (l : Line) (ls : List Line) → Sound n r ls → in_order (l ∷ ls) ≡ true → Below n (place n l) ls
  unfolding in_order
  order_below l [] s o = tt
  order_below m (l ∷ ls) (more s a) o = before_place n l m a.head (and_left (comes_before l m) (in_order (l ∷ ls)) o)

  pub below_later : (m k : ℕ) (ls : List Line) → m ≤ k → Below n m ls → Below n k ls
  below_later m k [] h b = tt
  below_later m k (l ∷ ls) h b = omega arith

  -- a place above all lines is not named
  pub above_unnamed : (m : ℕ) (ls : List Line) → Sound n r ls → in_order ls ≡ true → Below n m ls → weight_named ls (m / n) (m % n) ≡ no_arc
  unfolding weight_named
  above_unnamed m [] s o b = refl
  above_unnamed m (l ∷ ls) (more s a) o b =
      rw (names_place n l m a.head, ne_eqb (place n l) m (λ e. omega arith))
      (above_unnamed m ls s (order_rest l ls o) (below_later (place n l) m ls (omega arith) (order_below l ls s o)))

-- a line of a lower place comes before one of a higher place
pub place_before : (n : ℕ) (l m : Line) → m.head < n → place n l < place n m → comes_before l m ≡ true
unfolding comes_before
place_before n l m k e = by (ltb l.tail m.tail) refl
  where
    -- a lower row would end before the other's place
    not_above : m.tail < l.tail → ⊥
    not_above a = let g = grid_in n m.tail l.tail a in omega arith

    by : (c : Bool) → ltb l.tail m.tail ≡ c → c || (eqb l.tail m.tail && ltb l.head m.head) ≡ true
    by true q = refl
    by false q =
        let u = ltb-false l.tail m.tail q in
        let v = ltb-false m.tail l.tail (is_false (ltb m.tail l.tail) (λ x. not_above (ltb-true m.tail l.tail x))) in
        let same : l.tail ≡ m.tail = omega arith in
        let f : m.tail * n + l.head < m.tail * n + m.head = rw same at e in
        and_both (eqb l.tail m.tail) (ltb l.head m.head) (eq-eqb l.tail m.tail same) (lt-ltb l.head m.head (omega arith))
