-- `read_marks` has read the marks of the heads below `head`; each stands behind those of the members below it. Assumes
-- nothing.
use mathlib.Core.Path.{◌≡◌, sym, ◌∙◌}
use mathlib.Core.Bool.{Bool, true, false, cond}
use mathlib.Core.List.{List}
use Prim.Native.Nat.{ℕ, ◌+◌, ◌≤◌, ◌<◌}
use native.Mathlib.Omega.{arith}
use Rattle.base.proofs.DigitLaws.{digits_none}
use Rattle.bits.specs.Bits.{bits_in, field}
use Rattle.bits.proofs.ByteLaws.{bits_in_are_bits}
use Rattle.bits.proofs.FieldLaws.{field_below}
use Rattle.instance.specs.Limits.{max_vertices, free}
use Rattle.instance.specs.Cuts.{inside}
use Rattle.card_format.specs.Widths.{mark_width}
use Rattle.history_format.specs.RecordBits.{mark_offset}
use Rattle.history_format.proofs.MemberMarks.{offset_none, offset_most}
use Rattle.heads.proofs.LoopLaws.{mark_fits, mark_more, mark_skip}
use Rattle.history_card.proofs.MarksLaws.{offset_in, offset_out, offset_rises}
use Rattle.history_card.proofs.marks.read_marks.Goals as goal
use Rattle.history_card.proofs.marks.read_marks.Invariants.{mark_at}
use Rattle.history_card.proofs.marks.read_marks.Goals.{else-is_inside, then-is_inside}

small : (card : List ℕ) (at c v : ℕ) → v < 32 → mark_at card at c v < 4
small card at c v l = by (inside c v)
  where
    by : (b : Bool) → cond b (field (at + mark_offset c v) mark_width (bits_in card)) free < 4
    by true = field_below (at + mark_offset c v) mark_width (bits_in card) (bits_in_are_bits card)
    by false = omega arith

-- where the next member's mark ends
within : (c h : ℕ) → h < max_vertices → inside c h ≡ true → mark_offset c h + mark_width ≤ mark_offset c max_vertices
within c h l e = omega (arith, offset_in c h e, offset_rises c (h + 1) max_vertices (omega arith))

pub loop-head-init : goal.loop-head-init
loop-head-init c =
    let a = c.args in
    (omega arith, rw (offset_none a.heads) (omega arith), rw (digits_none 4 (mark_at a.card.now a.at a.heads)))

pub read_bits-mark-requires : goal.read_bits-mark-requires
read_bits-mark-requires c =
    let a = c.args in
    let l = c.loop-head in
    omega (arith, c.requires, l.invariant.1, within a.heads l.head (omega arith) (sym c.is_inside.ensures ∙ c.if-is_inside.true))

pub overflow_add-value : goal.overflow_add-value
overflow_add-value c =
    let a = c.args in
    let l = c.loop-head in
    let e = sym c.is_inside.ensures ∙ c.if-is_inside.true in
    let f = mark_fits (mark_at a.card.now a.at a.heads) (small a.card.now a.at a.heads) l.head l.value (omega arith) l.invariant.2 in
    record { fits = rw (c.read_bits-mark.ensures, l.invariant.1) (rw e at f) }

pub overflow_add-place : goal.overflow_add-place
overflow_add-place c = omega (arith, c.requires, c.loop-head.invariant.1, offset_most c.args.heads c.loop-head.head)

pub loop-head-preserved : goal.loop-head-preserved
loop-head-preserved c =
    let a = c.args in
    let l = c.loop-head in
    let g = mark_at a.card.now a.at a.heads in
    let s = small a.card.now a.at a.heads in
    let r = sym c.is_inside.ensures in (
      omega arith,
      elim c.if-is_inside.branch [
        | then-is_inside w ↦ omega (arith, w.place-is, l.invariant.1, offset_in a.heads l.head (r ∙ w.if-is_inside.true))
        | else-is_inside w ↦ omega (arith, w.place-is, l.invariant.1, offset_out a.heads l.head (r ∙ w.if-is_inside.false))
      ],
      elim c.if-is_inside.branch [
        | then-is_inside w ↦
            let q : w.read_bits-mark.result ≡ g l.head = w.read_bits-mark.ensures ∙ rw (l.invariant.1, r ∙ w.if-is_inside.true) in
            rw (w.value-is, q) (mark_more g s l.head l.value (omega arith) l.invariant.2)
        | else-is_inside w ↦ rw w.value-is (mark_skip g s l.head l.value (omega arith) l.invariant.2 (rw (r ∙ w.if-is_inside.false)))
      ],
    )
