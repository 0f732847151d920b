-- What planning gives. Assumes nothing.
pub mod Level
pub mod Planned
