pub mod Words
pub mod Hoops
pub mod Parts
pub mod Files
pub mod Offs
