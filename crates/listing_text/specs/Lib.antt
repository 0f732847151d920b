-- The lines that a listing of all plans is printed by.
pub mod Heading
pub mod Trees
