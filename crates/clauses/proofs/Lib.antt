-- The laws that proofs cite, here and in the crates above.
pub mod OfRead
pub mod OfSlice
pub mod OfScreen
pub mod OfClause
pub mod OfStep
pub mod OfPlace
pub mod OfNames
pub mod Examples
