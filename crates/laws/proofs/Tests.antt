-- Tests taken apart: the laws of the crate below, under one name for all above it.
pub use Rattle.chunk.proofs.Tests.{by_test, and-false, and_left, and_right, and_both, bool_eq, true-not-false, or-false, and-true}
