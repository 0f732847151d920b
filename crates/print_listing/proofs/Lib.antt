-- What the program knows of the boards that it opens and of the lines that it prints.
pub mod BoardLaws
pub mod LineLaws
