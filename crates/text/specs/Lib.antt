-- Text as lists of bytes, and what the functions that write it leave in a caller's buffer.
pub mod Decimal
pub mod Lines
pub mod Buffer
