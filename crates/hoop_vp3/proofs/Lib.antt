-- Laws that more than one proof cites.
pub mod Steps
pub mod Blockwise
