-- The laws that proofs cite, here and in the crates above.
pub mod OfWords
pub mod OfInput
pub mod OfReading
pub mod OfRelease
pub mod OfBounds
pub mod Examples
