-- Laws of pins and of the cells of the matrix. Assumes nothing.
pub mod PinLaws
pub mod RemainingLaws
