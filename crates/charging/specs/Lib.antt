-- What the functions that charge a group give. Assumes nothing.
pub mod Entering
pub mod Lower
pub mod Members
pub mod Charge
