-- Laws of this crate's proofs that belong to no one function.
pub mod Copy
pub mod Place
pub mod Append
pub mod ValEnds
pub mod Counts
pub mod Read
pub mod Meeting
pub mod Laid
pub mod Numbers
pub mod Pair
pub mod Accepted
