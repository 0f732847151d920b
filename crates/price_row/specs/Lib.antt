-- The row of prices that is used for a tail, and what document 02 says of it in words. Assumes nothing.
pub mod Row
pub mod Readings
