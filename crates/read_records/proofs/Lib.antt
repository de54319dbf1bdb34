-- Laws that more than one proof cites, and what a reader needs of every format.
pub mod Signs
pub mod Parts
pub mod Formats
pub mod Pairs
pub mod Controls
pub mod Digits
pub mod Dsts
pub mod Pecs
pub mod PecTables
pub mod DstTables
pub mod Fours
pub mod Eights
