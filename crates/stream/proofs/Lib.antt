pub mod Lengths
pub mod Stream
