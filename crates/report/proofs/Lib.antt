-- Laws of the report on a card.
pub mod ReportLaws
pub mod LongCards
pub mod LongestReport
pub mod Learnt
