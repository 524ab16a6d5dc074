pub mod Cut
pub mod Records
pub mod Ranges
