-- `print_merged` is safe: what is written lies within its buffer. Assumes nothing.
use mathlib.Core.Path.{sym}
use lib.Seq.{length-take-le}
use Rattle.price_merge.proofs.MergeLaws.{merged_within}
use Rattle.print_merged.proofs.print_merged.Goals as goal

pub slice_bounds-list-end : goal.slice_bounds-list-end
slice_bounds-list-end c = merged_within _ _ _ _ _ _ _ c.in-Ok.ensures

pub slice_bounds-write_all-end : goal.slice_bounds-write_all-end
slice_bounds-write_all-end c = sym (length-take-le _ _ (merged_within _ _ _ _ _ _ _ c.in-Ok.ensures))
