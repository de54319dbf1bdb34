pub mod Tallied
pub mod Filled
pub mod Walked
pub mod Blockwise
