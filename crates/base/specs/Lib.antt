-- Lists made by index, tests and sums over every number below a bound, digits. Assumes nothing.
pub mod Bounded
pub mod Lists
pub mod Digits
