-- The four steps of WholeLaws. Assumes nothing.
use Rattle.report_text.proofs.WholeLaws.{header_room, outcome_room, feeds_room, rows_room, text_put}
use Rattle.report_text.proofs.whole.write_report.Goals as goal

pub put_header-outcome_at-requires : goal.put_header-outcome_at-requires
put_header-outcome_at-requires c = header_room _ _ _ _ _ _ _ c.requires.outcome_in_bounds

pub put_outcome-feeds_at-requires : goal.put_outcome-feeds_at-requires
put_outcome-feeds_at-requires c =
    outcome_room _ _ _ _ _ _ _ c.requires.outcome_in_bounds c.put_header-outcome_at.ensures

pub put_feeds-rows_at-requires : goal.put_feeds-rows_at-requires
put_feeds-rows_at-requires c =
    let room = feeds_room _ _ _ _ _ _ _ c.requires.outcome_in_bounds c.put_header-outcome_at.ensures c.put_outcome-feeds_at.ensures in
    record { weights_len = c.requires.weights_len; n_in_bounds = c.requires.n_in_bounds; room = room }

pub put_rows-requires : goal.put_rows-requires
put_rows-requires c =
    let room =
    rows_room _ _ _ _ _ _ _ c.requires.outcome_in_bounds c.put_header-outcome_at.ensures c.put_outcome-feeds_at.ensures c.put_feeds-rows_at.ensures in
    record { n_le_max_vertices = c.requires.n_le_max_vertices; n_in_bounds = c.requires.n_in_bounds_2; room = room }

pub returns : goal.returns
returns c =
    text_put _ _ _ _ _ _ _ c.requires.outcome_in_bounds c.put_header-outcome_at.ensures c.put_outcome-feeds_at.ensures c.put_feeds-rows_at.ensures
    c.put_rows.ensures
