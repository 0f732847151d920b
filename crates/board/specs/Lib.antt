-- The program's board as the model, what the calls' contracts say, what a command comes to, all that a board holds, and
-- a new board. Assumes nothing.
pub mod ModelOf
pub mod Calls
pub mod Changes
pub mod Contents
pub mod Create
