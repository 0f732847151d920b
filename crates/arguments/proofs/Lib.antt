-- Laws of words that are read as numbers. Assumes nothing.
pub mod WordLaws
