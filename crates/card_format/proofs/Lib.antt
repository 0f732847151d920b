-- Laws of the card, its round trips, and document 01's card computed. Assumes nothing.
pub mod LengthLaws
pub mod OffsetLaws
pub mod CellLaws
pub mod HeaderLaws
pub mod OpensLaws
pub mod WrittenBits
pub mod CardAgain
pub mod InstanceAgain
pub mod SameCard
pub mod TooLong
pub mod SixRetired
pub mod WorkedCards
pub mod WorkedRefusals
