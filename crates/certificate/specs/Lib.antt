-- Plans made elsewhere: when they are accepted. Assumes nothing.
pub mod Certificate
pub mod Readings
