-- What the contracts cite besides the definitions of `enumeration`. Assumes nothing.
pub mod Listing
