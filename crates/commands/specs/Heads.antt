-- Several arcs of one tail at once, their heads as a set of vertices (02, A5: "one feeder, a set of fed positions as a
-- 32-bit number"): which arcs the set names, and their marks. Assumes nothing: these are definitions.
use Rattle.std.specs.Prelude.{Bool, ◌&&◌, cond, List, ℕ, ◌/◌, ◌%◌, ◌^◌, ltb, eqb, length, get_or}
use Rattle.base.specs.Bounded.{any_below}
use Rattle.base.specs.Lists.{tabulate}
use Rattle.base.specs.Digits.{from_digits}
use Rattle.instance.specs.Limits.{max_vertices, free}
use Rattle.instance.specs.Instance.{Instance, mark, is_arc}
use Rattle.instance.specs.Cuts.{inside}

-- every head is below n; where not, there is "a set bit not below the count" (`heads_below_reads`, `reads_heads_below`)
unfoldable pub heads_below : (n heads : ℕ) → Bool
heads_below n c = ltb c (2 ^ n)

-- "Members that are no link are skipped."
unfoldable pub names_arc : Instance → (tail heads head : ℕ) → Bool
names_arc s t c h = inside c h && is_arc s t h

-- some head is that of an arc; where not, "no member is a link"
unfoldable pub names_any : Instance → (tail heads : ℕ) → Bool
names_any s t c = any_below max_vertices (names_arc s t c)

-- the set of the heads that pass a test, as a record has it
unfoldable pub heads_of : (named : ℕ → Bool) → ℕ
heads_of q = from_digits 2 max_vertices (λ h. cond (q h) 1 0)

-- the marks of the arcs from a tail to these heads, by head: "The record must now hold each replaced mark"
unfoldable pub marks_of : Instance → (tail : ℕ) → (named : ℕ → Bool) → List ℕ
marks_of s t q = tabulate max_vertices (λ h. cond (q h) (mark s t h) free)

-- the cell i is that of this tail and one of these heads
unfoldable pub is_named : (tail : ℕ) → (named : ℕ → Bool) → (i : ℕ) → Bool
is_named t q i = eqb (i / 32) t && q (i % 32)

-- new marks at those cells, and the old ones at all others: "The marks afterwards equal those from single presses on
-- each member link" (`singles_alike`)
unfoldable pub put_marks : (tail : ℕ) → (named : ℕ → Bool) → (new : ℕ → ℕ) → List ℕ → List ℕ
put_marks t q g ms = tabulate (length ms) (λ i. cond (is_named t q i) (g (i % 32)) (get_or ms i free))

unfoldable pub with_marks : (tail : ℕ) → (named : ℕ → Bool) → (new : ℕ → ℕ) → Instance → Instance
with_marks t q g s =
    record { n = s.n; root = s.root; budget = s.budget; weights = s.weights; marks = put_marks t q g s.marks }
