pub mod Closer
pub mod Matches
