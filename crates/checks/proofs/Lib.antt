-- The laws that proofs cite, here and in the crates above.
pub mod OfChecks
pub mod Examples
pub mod OfEach
