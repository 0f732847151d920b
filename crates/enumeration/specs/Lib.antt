-- All fitting arborescences: the walk that lists them, with its limit and its room. Assumes nothing.
pub mod Events
pub mod Walk
