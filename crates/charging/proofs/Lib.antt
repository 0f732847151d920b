-- Laws of charging that the functions' proofs cite. Assumes nothing.
pub mod EnteringLaws
pub mod LowerLaws
pub mod MembersLaws
pub mod ChargeLaws
