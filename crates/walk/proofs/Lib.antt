-- Laws of this crate's proofs that belong to no one function.
pub mod Turns
pub mod Counts
pub mod Ways
pub mod Left
pub mod Whole
pub mod Examples
