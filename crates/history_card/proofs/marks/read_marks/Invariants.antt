-- `read_marks` has read the marks of the heads below `head`; each stands behind those of the members below it. Assumes
-- nothing.
use mathlib.Core.Path.{◌≡◌}
use mathlib.Core.Bool.{cond}
use mathlib.Core.List.{List}
use Prim.Native.Nat.{ℕ, ◌+◌, ◌≤◌}
use Rattle.base.specs.Digits.{from_digits}
use Rattle.bits.specs.Bits.{bits_in, field}
use Rattle.instance.specs.Limits.{max_vertices, free}
use Rattle.instance.specs.Cuts.{inside}
use Rattle.card_format.specs.Widths.{mark_width}
use Rattle.history_format.specs.RecordBits.{mark_offset}
use Rattle.history_card.proofs.marks.read_marks.Given as goal

abbrev pub mark_at : (card : List ℕ) → (at heads v : ℕ) → ℕ
mark_at card at c v = cond (inside c v) (field (at + mark_offset c v) mark_width (bits_in card)) free

abbrev pub invariant-loop-head : goal.invariant-loop-head
invariant-loop-head l =
    (l.head ≤ max_vertices) × (l.place ≡ l.at + mark_offset l.heads l.head)
    × (l.value ≡ from_digits 4 l.head (mark_at l.card l.at l.heads))
