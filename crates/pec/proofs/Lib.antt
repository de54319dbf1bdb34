pub mod Stream
pub mod Runs
pub mod Turns
