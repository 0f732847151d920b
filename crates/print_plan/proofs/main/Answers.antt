-- `main` is safe and ends: what is printed lies within its buffer. Assumes nothing.
use mathlib.Core.Path.{sym}
use lib.Seq.{length-take-le}
use Rattle.report.proofs.ReportLaws.{reported_within}
use Rattle.print_plan.proofs.main.Goals as goal

pub slice_bounds-text-end : goal.slice_bounds-text-end
slice_bounds-text-end c = reported_within _ _ _ _ c.report-reported.ensures

pub slice_bounds-write_all-end-2 : goal.slice_bounds-write_all-end-2
slice_bounds-write_all-end-2 c = sym (length-take-le _ _ (reported_within _ _ _ _ c.report-reported.ensures))
