-- Laws that the functions' proofs cite, and for callers that the states are those of the instance. Assumes nothing.
pub mod ShowLaws
