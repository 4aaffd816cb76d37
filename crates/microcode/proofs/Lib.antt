-- The laws that proofs cite, here and in the crates above.
pub mod OfCodec
pub mod OfParts
pub mod RoundTrip
pub mod OfNumbers
pub mod Examples
