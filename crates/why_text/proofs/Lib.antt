-- Laws of the lines: numbers with commas, room, lengths, and lines computed.
pub mod GroupedLaws
pub mod RoomLaws
pub mod LengthLaws
pub mod WorkedLines
