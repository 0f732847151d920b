-- Laws of the public calls. Assumes nothing.
pub mod OpeningLaws
pub mod WritingLaws
pub mod MovingLaws
pub mod LookingLaws
pub mod ExplainingLaws
pub mod EnumeratingLaws
pub mod CallKinds
pub mod CallSteps
pub mod ReplayingLaws
pub mod Learnt
