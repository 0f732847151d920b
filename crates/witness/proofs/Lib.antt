-- Laws of the witnesses of an arc's state. Assumes nothing.
pub mod RivalLaws
pub mod MatrixLaws
pub mod OutcomeLaws
pub mod StateLaws
pub mod LimitLaws
pub mod WitnessLaws
