pub mod Lists
pub mod Lengths
