-- Laws for the walk's program. Assumes nothing.
pub mod CycleLaws
pub mod StepLaws
pub mod SettlingLaws
pub mod BufferLaws
pub mod PairLaws
