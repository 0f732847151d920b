-- Laws that the functions' proofs cite; for callers, what the search starts from, and tables with nothing in them.
-- Assumes nothing.
pub mod TableLaws
pub mod ForcedLaws
pub mod FittingLaws
pub mod UsableLaws
pub mod JudgeLaws
