-- What a price list says, and by which number it is refused (02, A3). Assumes nothing: these are definitions.
use Rattle.std.specs.Prelude.{Bool, true, ◌&&◌, ◌||◌, cond, List, [], ◌∷◌, ◌++◌, ℕ, zero, suc, ◌+◌, ◌*◌, ◌/◌, ◌%◌, ltb, leb, eqb, length}
use Rattle.base.specs.Lists.{tabulate, any_of}
use Rattle.instance.specs.Limits.{max_vertices, max_weight, no_arc}
use Rattle.instance.specs.Refusals.{bad_count, bad_root, buffer_short, bad_line, line_no_vertex, line_no_arc, weight_too_high, named_before}
use Rattle.price_format.specs.Lines.{Line, has_line, first_line, after_line, line_text}

-- THE ARCS OF SOME LINES, the latest line first
unfoldable pub names : Line → (tail head : ℕ) → Bool
names l t h = eqb l.tail t && eqb l.head h

unfoldable pub is_named : List Line → (tail head : ℕ) → Bool
is_named ls t h = any_of (λ l. names l t h) ls

-- the weight that the lines give an arc; "no link in all other cells"
unfoldable pub weight_named : List Line → (tail head : ℕ) → ℕ
weight_named [] t h = no_arc
weight_named (l ∷ ls) t h = cond (names l t h) l.weight (weight_named ls t h)

-- "The first n times n words of a lent buffer take the prices, feeder by feeder"
unfoldable pub prices_of : (n : ℕ) → List Line → List ℕ
prices_of n ls = tabulate (n * n) (λ i. weight_named ls (i / n) (i % n))

-- ONE LINE, after those before it: "in this order within it: 16 its shape, 17 a position not below the count, 18 feeder
-- = fed or fed = root, 19 a price above the limit, 20 a link named before"
unfoldable pub numbers_refusal : (n root : ℕ) → (before : List Line) → Line → ℕ
numbers_refusal n r before l =
    cond (leb n l.tail || leb n l.head) line_no_vertex
    (cond (eqb l.tail l.head || eqb l.head r) line_no_arc
    (cond (ltb max_weight l.weight) weight_too_high
    (cond (is_named before l.tail l.head) named_before 0)))

unfoldable pub line_refusal : (n root : ℕ) → (before : List Line) → (text : List ℕ) → ℕ
line_refusal n r before t = cond (has_line t) (numbers_refusal n r before (first_line t)) bad_line

-- A WHOLE LIST: "by the first faulty line"
-- what came of it: 0 and its lines, the latest first; or the refusal of the first faulty line, which line that is,
-- counted from 1, and those before it
pub record ListRead : Type 0 where
  pub answer : ℕ
  pub line : ℕ
  pub lines : List Line

-- line by line, for at most so many lines; the end of the text is the end of the list, and the empty text is a list too
unfoldable pub read_lines : (most n root : ℕ) → (before : List Line) → (text : List ℕ) → ListRead
read_lines zero n r before t = record { answer = 0; line = 0; lines = before }
read_lines (suc k) n r before [] = record { answer = 0; line = 0; lines = before }
read_lines (suc k) n r before (b ∷ bs) =
    cond (eqb (line_refusal n r before (b ∷ bs)) 0) (read_lines k n r (first_line (b ∷ bs) ∷ before) (after_line (b ∷ bs)))
    (record { answer = line_refusal n r before (b ∷ bs); line = length before + 1; lines = before })

-- no text has more lines than bytes
unfoldable pub read_list : (n root : ℕ) → (text : List ℕ) → ListRead
read_list n r t = read_lines (length t) n r [] t

-- WHAT COMES BEFORE THE TEXT: "2 and 4 for a bad count or root, 14"; 0 if none of them
unfoldable pub count_refusal : (n root : ℕ) → ℕ
count_refusal n r = cond (eqb n 0 || ltb max_vertices n) bad_count (cond (leb n r) bad_root 0)

-- the count and root, then n times n prices in so many words
unfoldable pub room_refusal : (n root words : ℕ) → ℕ
room_refusal n r k = cond (eqb (count_refusal n r) 0) (cond (ltb k (n * n)) buffer_short 0) (count_refusal n r)

-- the reader's numbers; 0 is accepted
abbrev pub read_numbers : List ℕ
read_numbers = 0 ∷ bad_count ∷ bad_root ∷ buffer_short ∷ bad_line ∷ line_no_vertex ∷ line_no_arc ∷ weight_too_high ∷ named_before ∷ []

-- LINES AS TEXT, the latest at the end
unfoldable pub lines_text : List Line → List ℕ
lines_text [] = []
lines_text (l ∷ ls) = lines_text ls ++ line_text l.tail l.head l.weight

-- in written order: "by feeder, then fed"
unfoldable pub comes_before : Line → Line → Bool
comes_before l m = ltb l.tail m.tail || (eqb l.tail m.tail && ltb l.head m.head)

-- each line before the next; the latest line first
unfoldable pub in_order : List Line → Bool
in_order [] = true
in_order (l ∷ []) = true
in_order (m ∷ l ∷ ls) = comes_before l m && in_order (l ∷ ls)
