-- What the search for detours gives. Assumes nothing.
pub mod Descendants
pub mod Increases
pub mod Detours
