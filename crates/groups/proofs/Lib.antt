-- The laws that proofs cite, here and in the crates above.
pub mod OfCode
pub mod OfBelow
pub mod OfUnits
pub mod OfReduction
pub mod OfGroup
pub mod OfTally
