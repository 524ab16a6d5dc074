pub mod Form
pub mod Pass
pub mod Tally
pub mod Theorems
