pub mod OneChunk
pub mod Picked
