-- The loop has written the rows that it passed. Assumes nothing.
use mathlib.Core.Path.{◌≡◌, refl, ◌∙◌}
use native.Mathlib.Omega.{arith}
use Rattle.report_text.specs.Rows.{row_lines}
use Rattle.text.proofs.JoinLaws.{join_none, join_room, join_next}
use Rattle.report_text.proofs.rows.put_rows.Goals as goal

pub loop-tail-init : goal.loop-tail-init
loop-tail-init c = (join_none _ _ _, omega arith, refl)

pub put_row-next-requires : goal.put_row-next-requires
unfolding row_lines
put_row-next-requires c =
    let i = c.loop-tail in
    record { n_le_max_vertices = c.requires.n_le_max_vertices; tail_lt_n = c.loop-tail-test.true; n_in_bounds = c.requires.n_in_bounds; room = join_room _ _ i.tail c.requires.room c.loop-tail-test.true i.invariant.0 }

pub loop-tail-preserved : goal.loop-tail-preserved
unfolding row_lines
loop-tail-preserved c =
    let i = c.loop-tail in
    let test = c.loop-tail-test.true in
    (join_next _ _ i.tail c.requires.room test i.invariant.0 c.put_row-next.ensures, omega arith, c.put_row-next.auto.out ∙ i.invariant.2)

pub returns : goal.returns
unfolding row_lines
returns c = let e : c.loop-tail.tail ≡ c.args.n = omega arith in rw e at c.loop-tail.invariant.0
