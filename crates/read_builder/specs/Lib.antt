pub mod Builders
pub mod Colour
pub mod Cuts
