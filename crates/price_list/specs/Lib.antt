-- What the contracts cite.
pub mod Numbers
pub mod Lines
pub mod Reads
pub mod Writes
