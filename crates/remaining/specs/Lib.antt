-- What the contracts cite besides the definitions of `instance`. Assumes nothing.
pub mod Pins
