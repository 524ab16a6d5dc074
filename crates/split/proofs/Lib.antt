-- Laws of this crate's proofs that belong to no one function.
pub mod Records
pub mod Cuts
pub mod Spans
pub mod Sliced
