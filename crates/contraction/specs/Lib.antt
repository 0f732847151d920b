-- What Edmonds' algorithm keeps at each level of contraction. Assumes nothing.
pub mod Cells
pub mod Groups
pub mod Trees
pub mod Search
