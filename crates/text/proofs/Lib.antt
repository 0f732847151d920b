-- Laws of numbers in decimal, of lines, of pieces joined, and of putting them into a buffer.
pub mod DecimalLaws
pub mod LineLaws
pub mod BufferLaws
pub mod JoinLaws
