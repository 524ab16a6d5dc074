-- Laws of this crate's proofs that belong to no one function.
pub mod Bodies
pub mod Chunk
pub mod Formed
pub mod Parts
pub mod Left
pub mod Runs
pub mod Says
pub mod Sorted
pub mod Step
pub mod Tallying
pub mod Underway
pub mod Unsorted
pub mod Whole
