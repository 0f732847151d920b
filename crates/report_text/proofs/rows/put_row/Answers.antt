-- The four steps of RowLaws. Assumes nothing.
use native.Mathlib.Omega.{arith}
use lib.ListN.{length-set}
use Rattle.text.specs.Lines.{codes}
use Rattle.report_text.proofs.RowLaws.{row_in, row_room, space_room, states_room, end_room, row_put}
use Rattle.report_text.proofs.rows.put_row.Goals as goal

pub put_labelled-named-requires : goal.put_labelled-named-requires
unfolding codes
put_labelled-named-requires c = row_room _ _ _ c.requires.room

pub bounds-out-named : goal.bounds-out-named
unfolding codes
bounds-out-named c = space_room _ _ _ c.requires.room c.put_labelled-named.ensures

pub overflow_add-named : goal.overflow_add-named
unfolding codes
overflow_add-named c =
    let h = space_room _ _ _ c.requires.room c.put_labelled-named.ensures in
    omega (arith, c.well_formed.1.1.1.0.0, c.put_labelled-named.auto.out)

pub put_states-last-requires : goal.put_states-last-requires
unfolding codes
put_states-last-requires c = record { n_in_bounds = omega (arith, row_in c.args.n c.args.tail c.requires.tail_lt_n); room = states_room _ _ _ c.requires.room c.put_labelled-named.ensures }

pub bounds-out-last : goal.bounds-out-last
unfolding codes
bounds-out-last c =
    end_room _ _ _ c.requires.room c.put_labelled-named.ensures c.put_states-last.ensures

pub overflow_add-result : goal.overflow_add-result
unfolding codes
overflow_add-result c =
    let mid = c.put_labelled-named in
    let h = end_room _ _ _ c.requires.room mid.ensures c.put_states-last.ensures in
    omega (arith, c.well_formed.1.1.1.0.0, simp length-set at c.put_states-last.auto.out, mid.auto.out)

pub returns : goal.returns
unfolding codes
returns c =
    row_put _ _ _ c.requires.room c.put_labelled-named.ensures c.put_states-last.ensures
