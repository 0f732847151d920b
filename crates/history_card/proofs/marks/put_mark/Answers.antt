-- `put_mark` meets its contract: the bits of one mark, or nothing. Assumes nothing.
use mathlib.Core.Path.{◌≡◌, sym, ◌∙◌}
use mathlib.Core.Bool.{true, false}
use native.Mathlib.Omega.{arith}
use Rattle.bits.proofs.NumberLaws.{length_bits_of}
use Rattle.bits.proofs.WriterLaws.{put_none}
use Rattle.instance.specs.Cuts.{inside}
use Rattle.card_format.specs.Widths.{mark_width}
use Rattle.history_card.proofs.MarksLaws.{shifted_digit, mark_put, mark_left_out}
use Rattle.history_card.proofs.marks.put_mark.Goals as goal

pub put_bits-requires : goal.put_bits-requires
put_bits-requires c =
    let a = c.args in
    let t : inside a.heads a.head ≡ true = sym c.is_inside.ensures ∙ c.if-is_inside.true in
    (rw (mark_put a.heads a.marks a.head t, length_bits_of mark_width _) at c.requires.1, omega arith)

pub returns-then-is_inside : goal.returns-then-is_inside
returns-then-is_inside c =
    let a = c.args in
    let t : inside a.heads a.head ≡ true = sym c.is_inside.ensures ∙ c.if-is_inside.true in
    rw (mark_put a.heads a.marks a.head t, ← shifted_digit a.marks a.head) c.put_bits.ensures

pub returns : goal.returns
returns c =
    let a = c.args in
    let t : inside a.heads a.head ≡ false = sym c.is_inside.ensures ∙ c.if-is_inside.false in
    rw (mark_left_out a.heads a.marks a.head t) (put_none a.out.now a.w c.requires.1.few)
