-- What reading and judging one line promises, where the lines before it are known by the table of weights that they
-- gave. Assumes nothing: these are definitions.
use Rattle.std.specs.Prelude.{◌≡◌, true, false, ◌||◌, not, cond, List, ℕ, ◌≤◌, ◌<◌, ltb, leb, eqb, length, get_or, set, drop, Option, MatchOption, Result, MatchResult}
use Rattle.instance.specs.Limits.{max_weight, max_vertices, no_arc, cells}
use Rattle.instance.specs.Refusals.{bad_line, line_no_vertex, line_no_arc, weight_too_high, named_before}
use Rattle.instance.specs.RefusalNumbers.{answer_of}
use Rattle.instance.specs.declared.refusals.Refusal.{Refusal}
use Rattle.instance.specs.Instance.{cell}
use Rattle.price_format.specs.Lines.{Line, has_line, first_line, after_line}
use Rattle.price_format.specs.Reading.{weight_named}
use Rattle.price_list.specs.Numbers.{capped}
use Rattle.price_list.specs.declared.lines.LineRead.{LineRead}

-- a line at a place
pub record LineAt (text : List ℕ) (at : ℕ) (r : LineRead) : Type 0 where
  pub stands : has_line (drop at text) ≡ true
  pub tail : r.tail ≡ capped (first_line (drop at text)).tail
  pub head : r.head ≡ capped (first_line (drop at text)).head
  pub weight : r.weight ≡ capped (first_line (drop at text)).weight
  pub rest : drop r.next text ≡ after_line (drop at text)
  pub forward : at < r.next
  pub within : r.next ≤ length text

-- if one stands there
abbrev pub ReadsLine : (text : List ℕ) (at : ℕ) → Option LineRead → Type 0
ReadsLine text at r = MatchOption r (has_line (drop at text) ≡ false) (LineAt text at)

-- a table of weights, with a stride of 32, is that of some lines
pub record TableOf (ls : List Line) (table : List ℕ) : Type 0 where
  pub long : length table ≡ cells
  pub at : (t h : ℕ) → t < max_vertices → h < max_vertices → get_or table (cell t h) 0 ≡ weight_named ls t h

-- what is wrong with an arc and its weight; an arc is named before where the table has a weight for it
unfoldable pub table_refusal : (n root : ℕ) → (table : List ℕ) → (tail head weight : ℕ) → ℕ
table_refusal n r table t h w =
    cond (leb n t || leb n h) line_no_vertex
    (cond (eqb t h || eqb h r) line_no_arc
    (cond (ltb max_weight w) weight_too_high
    (cond (not (eqb (get_or table (cell t h) 0) no_arc)) named_before 0)))

-- the refusal of the line at a place
unfoldable pub refusal_at : (text : List ℕ) → (at n root : ℕ) → (table : List ℕ) → ℕ
refusal_at text at n r table =
    let l = first_line (drop at text) in
    cond (has_line (drop at text)) (table_refusal n r table l.tail l.head l.weight) bad_line

-- the line at a place is in the table, and the place after it
pub record LineTaken (text : List ℕ) (at : ℕ) (old new : List ℕ) (next : ℕ) : Type 0 where
  pub stored : let l = first_line (drop at text) in new ≡ set old (cell l.tail l.head) l.weight
  pub rest : drop next text ≡ after_line (drop at text)
  pub forward : at < next
  pub within : next ≤ length text

-- or it is refused, and the table is as it was
pub record TakesLine (text : List ℕ) (at n root : ℕ) (old new : List ℕ) (r : Result ℕ Refusal) : Type 0 where
  pub answer : answer_of r ≡ refusal_at text at n root old
  pub table : MatchResult r (LineTaken text at old new) (λ _. new ≡ old)
