-- Laws of the search for the first cheapest arborescence, as a program makes it. Assumes nothing.
pub mod SetLaws
pub mod TailLaws
pub mod FixingLaws
pub mod GrowthLaws
pub mod AttemptLaws
pub mod SearchLaws
pub mod PlannedLaws
