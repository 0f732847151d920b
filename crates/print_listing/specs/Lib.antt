-- What the program knows of the boards that it opens.
pub mod Boards
