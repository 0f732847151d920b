-- Laws of judging an input.
pub mod JudgeLaws
pub mod PartLaws
