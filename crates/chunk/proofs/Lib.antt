-- Laws of this crate's proofs that belong to no one function.
pub mod Tests
pub mod WellFormed
pub mod Placed
pub mod Counting
pub mod Falling
pub mod Parting
pub mod Rowing
pub mod Stepping
pub mod Looking
pub mod Lending
pub mod Refusals
