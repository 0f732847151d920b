-- `report_board` meets its contract: a look at a valid board is not refused, and what it leaves in three buffers of
-- full length is what the text is made of. Assumes nothing.
use native.Mathlib.Omega.{arith}
use Rattle.std.proofs.Common.{rules}
use Rattle.report.proofs.ReportLaws.{not_refused, text_shown}
use Rattle.report.proofs.reports.report_board.Goals as goal

pub returns-in_default : goal.returns-in_default
returns-in_default c =
    absurd
    (not_refused c.args.b.now c.requires.b_value c.look-view.result _ _ (omega arith) (omega arith) (omega arith) c.look-view.ensures _
    c.in_default.is)

pub write_report-requires : goal.write_report-requires
write_report-requires c =
    let t = text_shown c.args.b.now c.requires.b_value c.look-view.result _ _ (omega arith) (omega arith) (omega arith) c.look-view.ensures _ _ c.in-Shown.is in
    record { weights_len = search rules; n_le_max_vertices = t.small; n_in_bounds = t.parents_room; n_in_bounds_2 = t.states_room; outcome_in_bounds = t.text_room _ c.requires.max_text_in_bounds }

pub returns : goal.returns
returns c =
    (text_shown c.args.b.now c.requires.b_value c.look-view.result _ _ (omega arith) (omega arith) (omega arith) c.look-view.ensures _ _ c.in-Shown.is).reports
    _ _ _ c.write_report.ensures
