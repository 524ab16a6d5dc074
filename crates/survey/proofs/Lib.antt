-- Laws of this crate's proofs that belong to no one function.
pub mod Nexts
pub mod Plans
pub mod Fills
