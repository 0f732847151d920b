-- Price lists as text (02, A3).
pub mod Numbers
pub mod Lines
pub mod Reading
pub mod Writing
