-- What the proofs cite, here and in the crate above.
pub mod Distances
pub mod Lengths
pub mod Ops
