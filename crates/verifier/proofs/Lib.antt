-- Laws of judging a plan made elsewhere. Assumes nothing.
pub mod RestLaws
pub mod TreeLaws
pub mod CutsLaws
pub mod SelectedLaws
