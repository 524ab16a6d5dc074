pub mod Suffix
pub mod Weft
pub mod Outcome
pub mod Spots
pub mod Strode
pub mod Surveyed
pub mod Said
pub mod Rows
