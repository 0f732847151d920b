-- What the search for a cheapest spanning tree gives.
pub mod Place
pub mod Growth
pub mod Tree
