-- What the definitions give, by computation: the samples of the specification, whole files of the Rust, and rows at the edges of the rules.
pub mod Samples
pub mod Vectors
pub mod Edges
pub mod JobEdges
