pub mod Lasts
pub mod Digits
