-- The test of the code is that of the definition. Assumes nothing.
use mathlib.Core.Path.{sym, ◌∙◌}
use Rattle.text.proofs.BufferLaws.{puts_none}
use Rattle.why_text.specs.Cut.{member_text}
use Rattle.why_text.proofs.cut.put_member.Goals as goal

pub put_labelled-requires : goal.put_labelled-requires
unfolding member_text
put_labelled-requires c =
    rw (sym c.is_inside.ensures ∙ c.if-is_inside.true) at c.requires.room

pub returns-then-is_inside : goal.returns-then-is_inside
unfolding member_text
returns-then-is_inside c =
    rw (sym c.is_inside.ensures ∙ c.if-is_inside.true) c.put_labelled.ensures

pub returns : goal.returns
unfolding member_text
returns c = rw (sym c.is_inside.ensures ∙ c.if-is_inside.false) (puts_none _ _)
