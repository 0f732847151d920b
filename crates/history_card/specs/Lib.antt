-- What reading and writing a history card gives. Assumes nothing.
pub mod Marks
pub mod Record
pub mod Records
pub mod Open
pub mod Write
