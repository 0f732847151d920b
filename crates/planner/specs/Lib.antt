-- What the public calls promise. Assumes nothing.
pub mod Opening
pub mod Looking
pub mod Displaying
pub mod Writing
pub mod Moving
pub mod Checking
pub mod Enumerating
pub mod Explaining
pub mod Replaying
