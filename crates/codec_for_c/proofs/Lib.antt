-- The laws that proofs cite, and what holds of the definitions.
pub mod OfTests
pub mod OfRows
pub mod OfValues
pub mod OfFetches
pub mod OfCodec
pub mod OfFetchCodec
pub mod OfParts
pub mod Examples
