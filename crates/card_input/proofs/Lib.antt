-- Laws of a buffer that is filled part by part. Assumes nothing.
pub mod PartLaws
