-- What the contracts cite.
pub mod Lengths
