pub mod Arms
pub mod Digits
pub mod Bytes
pub mod Parts
