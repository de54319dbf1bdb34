pub mod Distances
pub mod Framing
pub mod Leads
pub mod Names
pub mod Turns
