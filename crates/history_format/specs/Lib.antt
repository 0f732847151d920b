-- The history card of document 02, A8, with no program. Assumes nothing.
pub mod RecordWidths
pub mod RecordBits
pub mod HistoryCard
