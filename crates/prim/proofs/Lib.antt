-- Laws of the search for a cheapest spanning tree. Assumes nothing.
pub mod PlaceLaws
pub mod KeysLaws
pub mod StepLaws
pub mod GrowthLaws
pub mod TreeLaws
