-- What searching and contracting a cycle give. Assumes nothing.
pub mod Cycle
pub mod Contract
