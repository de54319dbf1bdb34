-- Demand 3 over the definitions: the format-free part, the formats, the claim.
pub mod EventSewing
pub mod Accepting
pub mod Round
pub mod DstSewing
pub mod PecSewing
pub mod PecFiles
pub mod PairSewing
pub mod Vp3Files
pub mod Vp3Needles
pub mod Theorem
pub mod Calls
pub mod Sizes
