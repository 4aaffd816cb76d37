-- The laws that proofs cite, here and in the crates above.
pub mod OfPairs
pub mod OfLayout
pub mod OfStack
pub mod OfPass
pub mod OfSafe
pub mod OfJudge
pub mod OfBounds
pub mod Examples
