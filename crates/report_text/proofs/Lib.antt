-- Laws of the lines, of writing them and of the text's length; document 01's texts, computed.
pub mod HeadingLaws
pub mod FeedLaws
pub mod RowLaws
pub mod WholeLaws
pub mod LengthLaws
pub mod LongestText
pub mod WorkedTexts
