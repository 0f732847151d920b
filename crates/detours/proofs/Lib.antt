-- Laws that the functions' proofs cite. Assumes nothing.
pub mod IncreaseLaws
pub mod DetourLaws
