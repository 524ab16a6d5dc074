pub mod Ledger
pub mod Refusals
pub mod Settles
pub mod Outcomes
pub mod Yard
