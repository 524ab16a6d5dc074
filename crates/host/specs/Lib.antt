pub mod Answers
pub mod Steps
pub mod Extracts
pub mod Listing
pub mod Merges
