-- The laws that proofs cite, here and in the crates above.
pub mod OfTests
pub mod OfControl
pub mod OfEnd
pub mod OfRules
pub mod Examples
