-- The laws that proofs cite, here and in the crates above.
pub mod OfFaults
pub mod OfOperands
pub mod OfBounds
pub mod Examples
