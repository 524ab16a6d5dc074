-- Laws of this crate's proofs that belong to no one function.
pub mod Laid
pub mod Surveying
pub mod Joining
