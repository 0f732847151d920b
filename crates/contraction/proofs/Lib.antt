-- Laws of Edmonds' algorithm, with no program. Assumes nothing.
pub mod EachLaws
pub mod Lowering
pub mod Charging
pub mod Expansion
pub mod NoCycle
pub mod SearchLaws
pub mod ArcWeights
pub mod Finish
