-- What the search for the first cheapest arborescence keeps. Assumes nothing.
pub mod Narrowed
pub mod Grown
