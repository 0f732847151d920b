-- Laws of lists of commands. Assumes nothing.
pub mod CommandListLaws
pub mod AppliedLaws
pub mod FollowLaws
pub mod SameListLaws
pub mod ListNumberLaws
pub mod WorkedLists
pub mod LoopLaws
pub mod ListCalled
