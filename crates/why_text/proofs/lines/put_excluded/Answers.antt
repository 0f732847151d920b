-- The arc, the total, and what it is held to, one behind the other. Assumes nothing.
use Rattle.text.specs.Lines.{codes}
use Rattle.text.proofs.BufferLaws.{puts_room, puts_then}
use Rattle.why_text.specs.Lines.{line_text}
use Rattle.why_text.proofs.RoomLaws.{excluded_total, excluded_arc}
use Rattle.why_text.proofs.lines.put_excluded.Goals as goal

pub put_arc-named-requires : goal.put_arc-named-requires
unfolding codes
put_arc-named-requires c = excluded_arc _ _ _ _ _ c.requires

pub put_amount-next-requires : goal.put_amount-next-requires
unfolding codes
put_amount-next-requires c =
    puts_room c.put_arc-named.ensures _ (excluded_total _ _ _ _ _ c.requires)

pub put_limit-requires : goal.put_limit-requires
unfolding codes line_text
put_limit-requires c =
    puts_room (puts_then c.put_arc-named.ensures (excluded_total _ _ _ _ _ c.requires) c.put_amount-next.ensures) _ c.requires

pub returns : goal.returns
unfolding codes line_text
returns c =
    puts_then (puts_then c.put_arc-named.ensures (excluded_total _ _ _ _ _ c.requires) c.put_amount-next.ensures) c.requires
    c.put_limit.ensures
