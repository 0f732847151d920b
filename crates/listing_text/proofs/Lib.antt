-- Laws of the lines of a listing, and listings computed.
pub mod TreeLaws
pub mod HeadingLaws
pub mod WorkedLines
