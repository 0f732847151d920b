-- Laws that the functions' proofs cite, and for callers the reduced costs read off. Assumes nothing.
pub mod PlainLevelLaws
pub mod CycleLevelLaws
pub mod FirstChargeLaws
pub mod ReducedLaws
pub mod TotalLaws
pub mod PlannedLaws
