-- The laws that proofs cite, here and in the crates above.
pub mod OfFound
pub mod OfLines
pub mod OfKeys
pub mod OfNumbers
pub mod OfRows
pub mod OfCard
pub mod OfDecimals
pub mod OfShort
pub mod OfWritten
pub mod OfBehind
pub mod OfCut
pub mod Examples
