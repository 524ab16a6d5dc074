-- Theorems on the definitions of `specs/Lent.antt`.
pub mod Stays
