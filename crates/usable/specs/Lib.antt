-- What the search for usable arcs needs and gives. Assumes nothing.
pub mod Table
pub mod Forced
pub mod Fitting
pub mod Judge
