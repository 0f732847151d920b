-- Laws of rows, what document 02 says of them in words, and calls worked out. Assumes nothing.
pub mod RowLaws
pub mod ReadingsLaws
pub mod WorkedRows
pub mod Learnt
