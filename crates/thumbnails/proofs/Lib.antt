-- What the proofs cite; `Sizes` is for other crates too.
pub mod Cells
pub mod Joined
pub mod Sizes
pub mod Turns
pub mod Ends
pub mod Framed
pub mod Whole
