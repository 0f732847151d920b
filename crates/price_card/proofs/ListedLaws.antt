-- The instance of a list that is accepted: it is valid, and it is as a card is read, with no arc where none can be.
-- Assumes nothing.
use mathlib.Core.Path.{◌≡◌, refl, ◌∙◌}
use mathlib.Core.Bool.{Bool, true, false, ◌&&◌, ◌||◌, cond}
use mathlib.Core.List.{List, [], ◌∷◌}
use Prim.Native.Nat.{ℕ, ◌/◌, ◌%◌, ◌≤◌, ◌<◌}
use native.Mathlib.Omega.{arith}
use lib.Dec.{ltb, leb, eqb}
use lib.ListN.{length, length-replicate}
use borrow.Author.Tests.{ltb-false, leb-false, eqb-true, eqb-false, ne_eqb, lt-ltb, le-leb}
use Rattle.base.proofs.BoolLaws.{not_both, and_left, and_right, or_false_left, or_false_right, passed}
use Rattle.base.proofs.BoundedLaws.{all_intro}
use Rattle.base.proofs.ListLaws.{replicate_at, length_tabulate, get_d_tabulate}
use Rattle.instance.specs.Limits.{max_vertices, max_weight, max_budget, no_arc, free, cells}
use Rattle.instance.specs.Instance.{Instance, weight_at, mark_at, can_be_arc}
use Rattle.instance.specs.Valid.{cell_ok, cell_valid, header_valid, valid_instance}
use Rattle.card_format.specs.Card.{on_card}
use Rattle.card_format.proofs.CellLaws.{first_passes}
use Rattle.history_format.proofs.ModelAgain.{AsRead}
use Rattle.price_format.specs.Lines.{Line}
use Rattle.price_format.specs.Reading.{names, weight_named, read_list, count_refusal}
use Rattle.price_format.proofs.ReadingLaws.{Accepted, Sound, none, more, read_sound}
use Rattle.price_card.specs.ToCard.{card_count_refusal, weights_of, instance_listed}

-- WHAT ACCEPTED LINES SAY OF A CELL
module _ (n r : ℕ) where
  arc_there : (ls : List Line) (l : Line) → Accepted n r ls l → can_be_arc n r l.tail l.head ≡ true
  unfolding can_be_arc
  arc_there ls l a =
      rw (lt-ltb l.tail n a.tail, lt-ltb l.head n a.head, ne_eqb l.tail l.head a.apart, ne_eqb l.head r a.not_root)

  -- a price, or no arc
  pub named_ok : (ls : List Line) → Sound n r ls → (t h : ℕ) → cell_ok (weight_named ls t h) free ≡ true
  unfolding weight_named cell_ok
  named_ok [] s t h = refl
  named_ok (l ∷ ls) (more s a) t h = by (names l t h) (named_ok ls s t h)
    where
      by : (c : Bool) → cell_ok (weight_named ls t h) free ≡ true → cell_ok (cond c l.weight (weight_named ls t h)) free ≡ true
      by true e = rw (le-leb l.weight max_weight a.weight)
      by false e = e

  -- no arc, where none can be
  pub unnamed : (ls : List Line) → Sound n r ls → (t h : ℕ) → can_be_arc n r t h ≡ false → weight_named ls t h ≡ no_arc
  unfolding weight_named names
  unnamed [] s t h e = refl
  unnamed (l ∷ ls) (more s a) t h e = by (eqb l.tail t && eqb l.head h) refl (unnamed ls s t h e)
    where
      by : (c : Bool) → eqb l.tail t && eqb l.head h ≡ c → weight_named ls t h ≡ no_arc → cond c l.weight (weight_named ls t h) ≡ no_arc
      by false q rest = rest
      by true q rest =
          let u : l.tail ≡ t = eqb-true l.tail t (and_left (eqb l.tail t) (eqb l.head h) q) in
          let v : l.head ≡ h = eqb-true l.head h (and_right (eqb l.tail t) (eqb l.head h) q) in
          absurd (not_both (can_be_arc n r t h) (rw (u, v) at (arc_there ls l a)) e)

-- THE NUMBERS THAT COME WITH A LIST, where none is refused
pub record NumbersKnown (n r b : ℕ) : Type 0 where
  pub some : 1 ≤ n
  pub small : n ≤ max_vertices
  pub root : r < n
  pub budget : b ≤ max_budget

pub numbers_known : (n r b : ℕ) → card_count_refusal n r b ≡ 0 → NumbersKnown n r b
unfolding card_count_refusal count_refusal
numbers_known n r b e =
    let p = first_passes (count_refusal n r) (cond (ltb max_budget b) 5 0) e in
    let q = passed (eqb n 0 || ltb max_vertices n) 1 _ p.0 in
    let u = passed (leb n r) 3 0 q.1 in
    let v = passed (ltb max_budget b) 4 0 p.1 in
    let z = eqb-false n 0 (or_false_left (eqb n 0) (ltb max_vertices n) q.0) in
    record {
      some = omega (arith, z);
      small = ltb-false max_vertices n (or_false_right (eqb n 0) (ltb max_vertices n) q.0);
      root = leb-false n r u.0;
      budget = ltb-false max_budget b v.0;
    }

-- THE INSTANCE
module _ (n r b : ℕ) (t : List ℕ) where
  abbrev Lines : List Line
  Lines = (read_list n r t).lines

  pub sound : Sound n r Lines
  unfolding read_list
  sound = read_sound (length t) n r [] t none

  abbrev S : Instance
  S = instance_listed n r b t

  pub weight_listed : (i : ℕ) → i < cells → weight_at S i ≡ weight_named Lines (i / 32) (i % 32)
  unfolding instance_listed weights_of
  weight_listed i h = get_d_tabulate cells (λ j. weight_named Lines (j / 32) (j % 32)) i no_arc h

  mark_listed : (i : ℕ) → mark_at S i ≡ free
  unfolding instance_listed
  mark_listed i = replicate_at cells i free

  cell_listed : (i : ℕ) → i < cells → cell_valid S i ≡ true
  unfolding cell_valid
  cell_listed i h =
      by (can_be_arc S.n S.root (i / 32) (i % 32)) (rw (weight_listed i h, mark_listed i) (named_ok n r Lines sound (i / 32) (i % 32)))
    where
      by : (c : Bool) → cell_ok (weight_at S i) (mark_at S i) ≡ true → cond c (cell_ok (weight_at S i) (mark_at S i)) true ≡ true
      by true e = e
      by false e = refl

  pub listed_valid : card_count_refusal n r b ≡ 0 → valid_instance S ≡ true
  unfolding valid_instance header_valid instance_listed
  listed_valid e =
      let k = numbers_known n r b e in
      rw (le-leb 1 n k.some, le-leb n max_vertices k.small, lt-ltb r n k.root, le-leb b max_budget k.budget)
      (all_intro cells (cell_valid S) cell_listed)

  pub listed_as_read : AsRead S
  unfolding instance_listed weights_of on_card
  listed_as_read = record {
    weights_long = length_tabulate cells (λ j. weight_named Lines (j / 32) (j % 32));
    marks_long = length-replicate {A = ℕ} cells free;
    elsewhere = λ i h e. (weight_listed i h ∙ unnamed n r Lines sound (i / 32) (i % 32) e, mark_listed i);
  }
