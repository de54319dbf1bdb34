-- Lemmas that more than one proof cites.
pub mod Rooms
pub mod Colours
pub mod Openings
pub mod Stitches
pub mod Vp3Files
