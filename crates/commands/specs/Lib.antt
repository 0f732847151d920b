-- Several arcs of one tail, the board as a model, which boards are valid, the commands and what they may alter, and the
-- log that a board is held against, with who set an arc's mark. Assumes nothing.
pub mod Heads
pub mod Model
pub mod Valid
pub mod Commands
pub mod Changes
pub mod Log
pub mod LogLists
pub mod Effective
pub mod Setters
pub mod SameBoard
