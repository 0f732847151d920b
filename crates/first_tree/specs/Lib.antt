-- What the search for the first cheapest arborescence needs and gives. Assumes nothing.
pub mod Tails
pub mod Fixing
pub mod Growth
pub mod Search
pub mod Attempt
