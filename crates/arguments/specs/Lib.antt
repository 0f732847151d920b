-- What the contracts cite.
pub mod Word
