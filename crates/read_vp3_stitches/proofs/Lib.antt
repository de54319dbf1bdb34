-- Laws that more than one proof cites.
pub mod Stepping
pub mod Counting
pub mod Bounds
pub mod Following
pub mod Filling
