pub mod Back
pub mod Two
pub mod Vp3Rooms
pub mod Rooms
pub mod Cuts
pub mod Hoops
