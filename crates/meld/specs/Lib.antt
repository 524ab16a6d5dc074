pub mod Copy
pub mod Meld
pub mod Seam
pub mod Laid
pub mod Accepted
