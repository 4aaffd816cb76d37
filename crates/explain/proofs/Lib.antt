-- The laws that proofs cite, here and in the crates above.
pub mod OfInstruction
pub mod OfAsked
pub mod OfExplain
pub mod OfReading
pub mod OfBounds
