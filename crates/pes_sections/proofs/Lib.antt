-- Lemmas for the sections and the log.
pub mod Runs
pub mod Alike
pub mod Points
pub mod Lengths
pub mod Shorts
pub mod Steps
pub mod Stream
pub mod Stretch
