-- What the program knows of the lines that it prints.
pub mod LineLaws
