-- What the theorems are about, besides the definitions of `instance`. Assumes nothing.
pub mod Order
pub mod Readings
pub mod Usable
