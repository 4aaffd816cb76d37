-- The laws that proofs cite, here and in the crates above.
pub mod OfDigits
pub mod OfBuffer
pub mod OfReport
pub mod OfRules
pub mod OfLines
pub mod OfExplanation
pub mod OfSettings
pub mod Examples
