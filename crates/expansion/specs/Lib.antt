-- What expanding a cycle gives. Assumes nothing.
pub mod Expansion
