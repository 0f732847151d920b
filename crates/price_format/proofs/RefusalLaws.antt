-- Every answer of the reader and of the writer is one of its own numbers. Assumes nothing.
use mathlib.Core.Path.{◌≡◌, refl}
use mathlib.Core.Bool.{Bool, true, false, ◌||◌, cond}
use mathlib.Core.List.{List, [], ◌∷◌}
use Prim.Native.Nat.{ℕ, zero, suc, ◌+◌, ◌*◌}
use lib.Dec.{ltb, leb, eqb}
use lib.ListN.{length}
use Rattle.base.specs.Bounded.{all_below}
use Rattle.base.specs.Lists.{any_of}
use Rattle.instance.specs.Limits.{max_vertices, max_weight}
use Rattle.instance.specs.Refusals.{bad_count, bad_root, buffer_short, bad_line, line_no_vertex, line_no_arc, weight_too_high, named_before}
use Rattle.price_format.specs.Lines.{Line, has_line, first_line, after_line}
use Rattle.price_format.specs.Reading.{is_named, numbers_refusal, line_refusal, ListRead, read_lines, read_list, count_refusal, room_refusal, read_numbers}
use Rattle.price_format.specs.Writing.{price_at, list_text, place_ok, prices_refusal, write_refusal, write_numbers}

-- THE READER
line_listed : (n r : ℕ) (before : List Line) (t : List ℕ) → any_of (eqb (line_refusal n r before t)) read_numbers ≡ true
unfolding line_refusal numbers_refusal any_of
line_listed n r before t =
    let l = first_line t in
    by (has_line t) (leb n l.tail || leb n l.head) (eqb l.tail l.head || eqb l.head r) (ltb max_weight l.weight) (is_named before l.tail l.head)
  where
    by : (c d e f g : Bool)
        → any_of (eqb (cond c (cond d line_no_vertex (cond e line_no_arc (cond f weight_too_high (cond g named_before 0)))) bad_line)) read_numbers ≡ true
    by false d e f g = refl
    by true true e f g = refl
    by true false true f g = refl
    by true false false true g = refl
    by true false false false true = refl
    by true false false false false = refl

lines_listed : (k n r : ℕ) (before : List Line) (t : List ℕ) → any_of (eqb (read_lines k n r before t).answer) read_numbers ≡ true
unfolding read_lines any_of
lines_listed zero n r before t = refl
lines_listed (suc k) n r before [] = refl
lines_listed (suc k) n r before (b ∷ bs) =
    go (eqb (line_refusal n r before (b ∷ bs)) 0) (lines_listed k n r (first_line (b ∷ bs) ∷ before) (after_line (b ∷ bs)))
  where
    next : ListRead
    next = read_lines k n r (first_line (b ∷ bs) ∷ before) (after_line (b ∷ bs))

    go : (c : Bool) → any_of (eqb next.answer) read_numbers ≡ true
        → any_of (eqb (cond c next (record { answer = line_refusal n r before (b ∷ bs); line = length before + 1; lines = before })).answer) read_numbers ≡ true
    go true e = e
    go false e = line_listed n r before (b ∷ bs)

pub list_listed : (n r : ℕ) (t : List ℕ) → any_of (eqb (read_list n r t).answer) read_numbers ≡ true
unfolding read_list
list_listed n r t = lines_listed (length t) n r [] t

-- what comes before the text
abbrev count_by : (c d : Bool) → ℕ
count_by c d = cond c bad_count (cond d bad_root 0)

abbrev room_by : (c d e : Bool) → ℕ
room_by c d e = cond (eqb (count_by c d) 0) (cond e buffer_short 0) (count_by c d)

pub room_listed : (n r k : ℕ) → any_of (eqb (room_refusal n r k)) read_numbers ≡ true
unfolding room_refusal count_refusal any_of
room_listed n r k = by (eqb n 0 || ltb max_vertices n) (leb n r) (ltb k (n * n))
  where
    by : (c d e : Bool) → any_of (eqb (room_by c d e)) read_numbers ≡ true
    by true d e = refl
    by false true e = refl
    by false false true = refl
    by false false false = refl

-- THE WRITER
pub write_listed : (n r : ℕ) (ps : List ℕ) (k : ℕ) → any_of (eqb (write_refusal n r ps k)) write_numbers ≡ true
unfolding write_refusal prices_refusal room_refusal count_refusal any_of
write_listed n r ps k =
    by (eqb n 0 || ltb max_vertices n) (leb n r) (ltb (length ps) (n * n)) (all_below (n * n) (λ i. place_ok n r i (price_at ps i))) (ltb k (length (list_text n r ps)))
  where
    prices_by : (c d e f : Bool) → ℕ
    prices_by c d e f = cond (eqb (room_by c d e) 0) (cond f 0 weight_too_high) (room_by c d e)

    by : (c d e f g : Bool) → any_of (eqb (cond (eqb (prices_by c d e f) 0) (cond g buffer_short 0) (prices_by c d e f))) write_numbers ≡ true
    by true d e f g = refl
    by false true e f g = refl
    by false false true f g = refl
    by false false false false g = refl
    by false false false true true = refl
    by false false false true false = refl
