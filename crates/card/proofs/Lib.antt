-- How the steps of reading and of writing a card make up the whole. Assumes nothing.
pub mod ReadLaws
pub mod WriteLaws
