pub mod Stitches
pub mod Blocks
