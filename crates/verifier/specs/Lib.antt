-- What the contracts cite besides the definitions of `certificate`. Assumes nothing.
pub mod Selected
pub mod Judged
pub mod Pairs
