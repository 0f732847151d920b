-- Laws of reading a list line by line: how far it has come, and what is known of the lines that were accepted. Assumes
-- nothing.
use mathlib.Core.Path.{◌≡◌, refl}
use mathlib.Core.Bool.{Bool, true, false, ◌||◌, cond}
use mathlib.Core.List.{List, [], ◌∷◌}
use Prim.Native.Nat.{ℕ, zero, suc, ◌+◌, ◌≤◌, ◌<◌}
use native.Mathlib.Omega.{arith}
use lib.Dec.{ltb, leb, eqb}
use lib.ListN.{length}
use borrow.Author.Tests.{le-leb, ltb-false, leb-false, lt-leb, le-ltb, eqb-true, eqb-false, eq-eqb, ne_eqb}
use Rattle.base.proofs.BoolLaws.{passed, or_right, or_false_left, or_false_right, or_both_false}
use Rattle.instance.specs.Limits.{max_weight, no_arc}
use Rattle.instance.specs.Refusals.{bad_line}
use Rattle.price_format.specs.Lines.{Line, has_line, first_line, after_line}
use Rattle.price_format.specs.Reading.{names, weight_named, is_named, numbers_refusal, line_refusal, ListRead, read_lines, read_list}
use Rattle.price_format.proofs.LineLaws.{line_shorter}

-- an accepted arc: two different vertices below n, of which the second is not the root, a weight, and not named before
pub record Accepted (n root : ℕ) (before : List Line) (l : Line) : Type 0 where
  pub tail : l.tail < n
  pub head : l.head < n
  pub apart : l.tail ≡ l.head → ⊥
  pub not_root : l.head ≡ root → ⊥
  pub weight : l.weight ≤ max_weight
  pub fresh : is_named before l.tail l.head ≡ false

pub accepted_numbers : (n r : ℕ) (before : List Line) (l : Line) → numbers_refusal n r before l ≡ 0 → Accepted n r before l
unfolding numbers_refusal
accepted_numbers n r before l e =
    let p = passed (leb n l.tail || leb n l.head) 16 _ e in
    let q = passed (eqb l.tail l.head || eqb l.head r) 17 _ p.1 in
    let u = passed (ltb max_weight l.weight) 18 _ q.1 in
    let v = passed (is_named before l.tail l.head) 19 0 u.1 in
    record {
      tail = leb-false n l.tail (or_false_left (leb n l.tail) (leb n l.head) p.0);
      head = leb-false n l.head (or_false_right (leb n l.tail) (leb n l.head) p.0);
      apart = eqb-false l.tail l.head (or_false_left (eqb l.tail l.head) (eqb l.head r) q.0);
      not_root = eqb-false l.head r (or_false_right (eqb l.tail l.head) (eqb l.head r) q.0);
      weight = ltb-false max_weight l.weight u.0;
      fresh = v.0;
    }

pub numbers_accepted : (n r : ℕ) (before : List Line) (l : Line) → Accepted n r before l → numbers_refusal n r before l ≡ 0
unfolding numbers_refusal
numbers_accepted n r before l a =
    rw (or_both_false (leb n l.tail) (leb n l.head) (lt-leb n l.tail a.tail) (lt-leb n l.head a.head), or_both_false (eqb l.tail l.head) (eqb l.head r) (ne_eqb l.tail l.head a.apart) (ne_eqb l.head r a.not_root), le-ltb max_weight l.weight a.weight, a.fresh)

-- a line without a fault
pub accepted_line : (n r : ℕ) (before : List Line) (t : List ℕ) → line_refusal n r before t ≡ 0 → (has_line t ≡ true) × Accepted n r before (first_line t)
unfolding line_refusal
accepted_line n r before t = by (has_line t)
  where
    by : (h : Bool) → cond h (numbers_refusal n r before (first_line t)) bad_line ≡ 0 → (h ≡ true) × Accepted n r before (first_line t)
    by true e = (refl, accepted_numbers n r before (first_line t) e)
    by false e = absurd (omega (arith, e))

-- LINES THAT WERE ACCEPTED, each after those before it
pub data Sound (n root : ℕ) : List Line → Type 0 where
  none : Sound n root []
  more : {l : Line} {ls : List Line} → Sound n root ls → Accepted n root ls l → Sound n root (l ∷ ls)

-- the lines that reading accepts are sound, whether the list is refused or not
pub read_sound : (k n r : ℕ) (before : List Line) (t : List ℕ) → Sound n r before → Sound n r (read_lines k n r before t).lines
unfolding read_lines
read_sound zero n r before t s = s
read_sound (suc k) n r before [] s = s
read_sound (suc k) n r before (b ∷ bs) s =
    go (eqb (line_refusal n r before (b ∷ bs)) 0) refl (read_sound k n r (first_line (b ∷ bs) ∷ before) (after_line (b ∷ bs)))
  where
    go : (c : Bool) → eqb (line_refusal n r before (b ∷ bs)) 0 ≡ c
        → (Sound n r (first_line (b ∷ bs) ∷ before) → Sound n r (read_lines k n r (first_line (b ∷ bs) ∷ before) (after_line (b ∷ bs))).lines)
        → Sound n r (cond c (read_lines k n r (first_line (b ∷ bs) ∷ before) (after_line (b ∷ bs)))
        (record { answer = line_refusal n r before (b ∷ bs); line = length before + 1; lines = before })).lines
    go true e next = next (more s (accepted_line n r before (b ∷ bs) (eqb-true (line_refusal n r before (b ∷ bs)) 0 e)).1)
    go false e next = s

pub list_sound : (n r : ℕ) (t : List ℕ) → Sound n r (read_list n r t).lines
unfolding read_list
list_sound n r t = read_sound (length t) n r [] t none

-- HOW MANY LINES ARE ALLOWED does not matter, if there are as many as bytes
pub most_same : (k j n r : ℕ) (before : List Line) (t : List ℕ) → length t ≤ k → length t ≤ j → read_lines k n r before t ≡ read_lines j n r before t
unfolding read_lines
most_same zero zero n r before t h g = refl
most_same zero (suc j) n r before [] h g = refl
most_same zero (suc j) n r before (b ∷ bs) h g = absurd (omega arith)
most_same (suc k) zero n r before [] h g = refl
most_same (suc k) zero n r before (b ∷ bs) h g = absurd (omega arith)
most_same (suc k) (suc j) n r before [] h g = refl
most_same (suc k) (suc j) n r before (b ∷ bs) h g =
    go (eqb (line_refusal n r before (b ∷ bs)) 0) refl (most_same k j n r (first_line (b ∷ bs) ∷ before) (after_line (b ∷ bs)))
  where
    rest : List ℕ
    rest = after_line (b ∷ bs)

    next : ℕ → ListRead
    next i = read_lines i n r (first_line (b ∷ bs) ∷ before) rest

    refused : ListRead
    refused = record { answer = line_refusal n r before (b ∷ bs); line = length before + 1; lines = before }

    go : (c : Bool) → eqb (line_refusal n r before (b ∷ bs)) 0 ≡ c → (length rest ≤ k → length rest ≤ j → next k ≡ next j) → cond c (next k) refused ≡ cond c (next j) refused
    go false e same = refl
    go true e same =
        let s = line_shorter (b ∷ bs) (accepted_line n r before (b ∷ bs) (eqb-true (line_refusal n r before (b ∷ bs)) 0 e)).0 in
        same (omega arith) (omega arith)

-- ONE STEP of reading, as many lines being allowed as there are bytes
module _ (n r : ℕ) (before : List Line) where
  pub read_ends : (t : List ℕ) → length t ≡ 0 → read_lines (length t) n r before t ≡ record { answer = 0; line = 0; lines = before }
  unfolding read_lines
  read_ends [] e = refl
  read_ends (b ∷ bs) e = absurd (omega arith)

  pub read_accepts : (t : List ℕ) → 0 < length t → line_refusal n r before t ≡ 0
      → read_lines (length t) n r before t ≡ read_lines (length (after_line t)) n r (first_line t ∷ before) (after_line t)
  unfolding read_lines
  read_accepts [] h e = absurd (omega arith)
  read_accepts (b ∷ bs) h e =
      let t = b ∷ bs in
      let s = line_shorter t (accepted_line n r before t e).0 in
      rw (eq-eqb (line_refusal n r before t) 0 e) (most_same (length bs) (length (after_line t)) n r (first_line t ∷ before) (after_line t) (omega arith) (omega arith))

  pub read_refuses : (t : List ℕ) → 0 < length t → (line_refusal n r before t ≡ 0 → ⊥)
      → read_lines (length t) n r before t ≡ record { answer = line_refusal n r before t; line = length before + 1; lines = before }
  unfolding read_lines
  read_refuses [] h e = absurd (omega arith)
  read_refuses (b ∷ bs) h e = rw (ne_eqb (line_refusal n r before (b ∷ bs)) 0 e)

-- every weight that sound lines give can be written again
pub sound_ok : (n r : ℕ) (ls : List Line) (t h : ℕ) → Sound n r ls → eqb (weight_named ls t h) no_arc || leb (weight_named ls t h) max_weight ≡ true
unfolding weight_named
sound_ok n r [] t h none = refl
sound_ok n r (l ∷ ls) t h (more s a) = go (names l t h) (sound_ok n r ls t h s)
  where
    go : (c : Bool) → eqb (weight_named ls t h) no_arc || leb (weight_named ls t h) max_weight ≡ true
        → eqb (cond c l.weight (weight_named ls t h)) no_arc || leb (cond c l.weight (weight_named ls t h)) max_weight ≡ true
    go true e = or_right (eqb l.weight no_arc) (leb l.weight max_weight) (le-leb l.weight max_weight a.weight)
    go false e = e
