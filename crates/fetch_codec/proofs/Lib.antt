-- The laws that proofs cite, here and in the crates above.
pub mod RoundTrip
pub mod OfNumbers
