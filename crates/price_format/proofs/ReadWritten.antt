-- "a list in written order is reproduced byte for byte" (02, A3): a list that is accepted is the text of its lines, one
-- behind the other; where they are in order, these are the lines that the places of its prices have. Lines have the
-- latest first, and texts are joined with the last piece at the end, so both go by the same steps. Assumes nothing.
use mathlib.Core.Path.{◌≡◌, refl, sym, ap, ◌∙◌}
use mathlib.Core.Bool.{Bool, true, false, ◌&&◌, ◌||◌, not, cond}
use mathlib.Core.List.{List, [], ◌∷◌, ◌++◌, append-nil}
use Prim.Native.Nat.{ℕ, zero, suc, ◌+◌, ◌*◌, ◌/◌, ◌%◌, ◌≤◌, ◌<◌}
use native.Mathlib.Omega.{arith}
use native.Mathlib.Decide.{ℕ_discrete}
use lib.Dec.{leb, eqb}
use lib.ListN.{get_or-append}
use borrow.Author.Tests.{eq-eqb, ne_eqb, lt-ltb}
use Rattle.base.specs.Lists.{join_below, tabulate}
use Rattle.base.specs.Bounded.{all_below}
use Rattle.base.proofs.BoundedLaws.{all_intro}
use Rattle.base.proofs.JoinLaws.{join_same}
use Rattle.base.proofs.ListLaws.{length_tabulate, get_d_tabulate}
use Rattle.base.proofs.GridLaws.{grid_at_row, grid_at_column, grid_in}
use Rattle.instance.specs.Limits.{max_vertices, max_weight, no_arc}
use Rattle.instance.specs.Instance.{can_be_arc}
use Rattle.price_format.specs.Lines.{Line, line_text}
use Rattle.price_format.specs.Reading.{weight_named, prices_of, read_list, lines_text, in_order}
use Rattle.price_format.specs.Writing.{price_at, is_written, place_text, list_text, place_ok}
use Rattle.price_format.proofs.ReadingLaws.{Accepted, Sound, more, list_sound, sound_ok}
use Rattle.price_format.proofs.Readings.{accepted_text}
use Rattle.price_format.proofs.PlaceLaws.{place, names_place, Below, order_rest, order_below, above_unnamed}

-- LINES IN ORDER are those of the places
module _ (n r : ℕ) where
  abbrev piece : List Line → (i : ℕ) → List ℕ
  piece ls i = place_text n r i (weight_named ls (i / n) (i % n))

  empty_piece : (i : ℕ) → place_text n r i no_arc ≡ []
  unfolding place_text is_written
  empty_piece i = by (can_be_arc n r (i / n) (i % n))
    where
      by : (c : Bool) → cond (c && not (eqb no_arc no_arc)) (line_text (i / n) (i % n) no_arc) [] ≡ []
      by true = refl
      by false = refl

  -- the place of a line has that line
  own_piece : (l : Line) (ls : List Line) → Accepted n r ls l → piece (l ∷ ls) (place n l) ≡ line_text l.tail l.head l.weight
  unfolding weight_named place_text is_written can_be_arc
  own_piece l ls a =
      rw (names_place n l (place n l) a.head, eq-eqb (place n l) (place n l) refl, grid_at_row n l.tail l.head a.head, grid_at_column n l.tail l.head a.head, lt-ltb l.tail n a.tail, lt-ltb l.head n a.head, ne_eqb l.tail l.head a.apart, ne_eqb l.head r a.not_root, ne_eqb l.weight no_arc (λ e. omega (arith, a.weight)))

  -- other places go by the other lines
  other_piece : (l : Line) (ls : List Line) (i : ℕ) → l.head < n → (place n l ≡ i → ⊥) → piece (l ∷ ls) i ≡ piece ls i
  unfolding weight_named
  other_piece l ls i h d = rw (names_place n l i h, ne_eqb (place n l) i d)

  all_below_square : (ls : List Line) → Sound n r ls → Below n (n * n) ls
  all_below_square [] s = tt
  all_below_square (l ∷ ls) (more s a) = let g = grid_in n l.tail n a.tail in omega (arith, a.head)

  ordered_text : (m : ℕ) (ls : List Line) → Sound n r ls → in_order ls ≡ true → Below n m ls → lines_text ls ≡ join_below m (piece ls)
  unfolding join_below lines_text weight_named
  ordered_text zero [] s o b = refl
  ordered_text zero (l ∷ ls) s o b = absurd (omega arith)
  ordered_text (suc m) [] s o b = ordered_text m [] s o tt ∙ sym (append-nil (join_below m (piece []))) ∙ ap (λ (x : List ℕ). join_below m (piece []) ++ x) (sym (empty_piece m))
  ordered_text (suc m) (l ∷ ls) (more s a) o b = by (ℕ_discrete (place n l) m) (ordered_text m ls s (order_rest n r l ls o)) (ordered_text m (l ∷ ls) (more s a) o)
    where
      by : Dec (place n l ≡ m) → (Below n m ls → lines_text ls ≡ join_below m (piece ls)) → (place n l < m → lines_text (l ∷ ls) ≡ join_below m (piece (l ∷ ls)))
          → lines_text (l ∷ ls) ≡ join_below m (piece (l ∷ ls)) ++ piece (l ∷ ls) m
      by (yes e) earlier same =
          let front : lines_text ls ≡ join_below m (piece (l ∷ ls)) =
          earlier (rw e at (order_below n r l ls s o))
          ∙ sym (join_same m (piece (l ∷ ls)) (piece ls) (λ i h. other_piece l ls i a.head (λ q. omega arith))) in
          rw (front, ← own_piece l ls a, e)
      by (no d) earlier same =
          same (omega (arith, d)) ∙ sym (append-nil (join_below m (piece (l ∷ ls))))
          ∙ ap (λ (x : List ℕ). join_below m (piece (l ∷ ls)) ++ x)
          (sym (ap (place_text n r m) (above_unnamed n r m (l ∷ ls) (more s a) o (omega (arith, d))) ∙ empty_piece m))

  -- what is written of the prices that lines give
  pub ordered_list : (ls : List Line) → Sound n r ls → in_order ls ≡ true → list_text n r (prices_of n ls) ≡ lines_text ls
  unfolding list_text prices_of
  ordered_list ls s o =
      join_same (n * n) (λ i. place_text n r i (price_at (prices_of n ls) i)) (piece ls)
      (λ i h. ap (place_text n r i) (get_d_tabulate (n * n) (λ j. weight_named ls (j / n) (j % n)) i no_arc h))
      ∙ sym (ordered_text (n * n) ls s o (all_below_square ls s))

-- THE LAW
pub read_written : (n r : ℕ) (t : List ℕ) → n ≤ max_vertices → (read_list n r t).answer ≡ 0 → in_order (read_list n r t).lines ≡ true
    → list_text n r (prices_of n (read_list n r t).lines) ≡ t
unfolding read_list lines_text
read_written n r t small e o =
    ordered_list n r (read_list n r t).lines (list_sound n r t) o ∙ accepted_text n r small t e

-- PRICES THAT WERE READ can be written, whatever words stand behind them in their buffer
module _ (n r : ℕ) (ls : List Line) (rest : List ℕ) where
  -- within the first n times n words the others do not count
  pub price_in_front : (i : ℕ) → i < n * n → price_at (prices_of n ls ++ rest) i ≡ weight_named ls (i / n) (i % n)
  unfolding prices_of
  price_in_front i h =
      let g : ℕ → ℕ = λ j. weight_named ls (j / n) (j % n) in
      get_or-append (tabulate (n * n) g) rest no_arc i (rw (length_tabulate (n * n) g) h) ∙ get_d_tabulate (n * n) g i no_arc h

  pub read_text_again : list_text n r (prices_of n ls ++ rest) ≡ list_text n r (prices_of n ls)
  unfolding list_text prices_of
  read_text_again =
      join_same (n * n) _ _
      (λ i h. ap (place_text n r i) (price_in_front i h ∙ sym (get_d_tabulate (n * n) (λ j. weight_named ls (j / n) (j % n)) i no_arc h)))

  pub read_ok_again : Sound n r ls → all_below (n * n) (λ i. place_ok n r i (price_at (prices_of n ls ++ rest) i)) ≡ true
  unfolding place_ok is_written
  read_ok_again s =
      all_intro (n * n) _
      (λ i h. rw (price_in_front i h) (by (can_be_arc n r (i / n) (i % n)) (eqb (weight_named ls (i / n) (i % n)) no_arc) (leb (weight_named ls (i / n) (i % n)) max_weight) (sound_ok n r ls (i / n) (i % n) s)))
    where
      by : (c e l : Bool) → e || l ≡ true → not (c && not e) || l ≡ true
      by true true l p = refl
      by true false l p = p
      by false e l p = refl
