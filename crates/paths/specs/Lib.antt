-- Paths in a list of parents, exchanges of arcs, and trees as a program holds them. Assumes nothing.
pub mod Paths
pub mod Exchange
pub mod Tree
