-- The word, the vertices, the value and the line feed, one behind the other. Assumes nothing.
use native.Mathlib.Omega.{arith}
use Rattle.text.specs.Lines.{codes}
use Rattle.text.proofs.BufferLaws.{puts_room, puts_then}
use Rattle.why_text.specs.Cut.{cut_line}
use Rattle.why_text.proofs.RoomLaws.{cut_members, cut_word}
use Rattle.why_text.proofs.cut.put_cut.Goals as goal

pub put_bytes-named-requires : goal.put_bytes-named-requires
unfolding codes
put_bytes-named-requires c = cut_word _ _ c.requires

pub put_members-listed-requires : goal.put_members-listed-requires
unfolding codes
put_members-listed-requires c = record { n_le_max_vertices = omega arith; room = puts_room c.put_bytes-named.ensures _ (cut_members _ _ c.requires) }

pub put_line-requires : goal.put_line-requires
unfolding codes cut_line
put_line-requires c =
    puts_room (puts_then c.put_bytes-named.ensures (cut_members _ _ c.requires) c.put_members-listed.ensures) _ c.requires

pub returns : goal.returns
unfolding codes cut_line
returns c =
    puts_then (puts_then c.put_bytes-named.ensures (cut_members _ _ c.requires) c.put_members-listed.ensures) c.requires
    c.put_line.ensures
