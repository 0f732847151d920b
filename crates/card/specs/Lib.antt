-- What reading and writing a card gives. Assumes nothing.
pub mod Cells
pub mod Read
pub mod Write
