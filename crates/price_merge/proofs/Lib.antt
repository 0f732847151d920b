-- Laws of rows one behind the other, of lists merged, and of what a merged list says. Assumes nothing.
pub mod RowsLaws
pub mod MergeLaws
pub mod MergedLaws
