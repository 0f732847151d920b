-- Bits of numbers and of bytes, and what a bit writer has put. Assumes nothing.

pub mod Bits
pub mod Writer
