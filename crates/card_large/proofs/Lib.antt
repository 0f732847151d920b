-- A computed proof. Assumes nothing.
pub mod LargeCard
