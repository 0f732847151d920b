-- Laws of bits. Assumes nothing.
pub mod NumberLaws
pub mod ByteLaws
pub mod FieldLaws
pub mod WriterLaws
