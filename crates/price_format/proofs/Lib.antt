-- Laws of price lists: numbers and lines in a text, what is accepted, and that a list is read as it was written and
-- written as it was read. Assumes nothing.
pub mod NumberLaws
pub mod LineLaws
pub mod ReadingLaws
pub mod LinesRead
pub mod RefusalLaws
pub mod Readings
pub mod OrderLaws
pub mod PlaceLaws
pub mod ReadWritten
pub mod WrittenRead
pub mod WorkedLists
