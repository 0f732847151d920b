-- What the contracts cite. Assumes nothing.
pub mod CommandList
