-- The text of a report, line by line.
pub mod Heading
pub mod Feeds
pub mod Rows
pub mod Whole
