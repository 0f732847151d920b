-- Laws of the search for the first cheapest arborescence: an arc fixed; its steps; a tree grown. Assumes nothing.
pub mod FixedLaws
pub mod NarrowedLaws
pub mod GrownLaws
