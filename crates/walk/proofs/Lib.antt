-- The laws that proofs cite, here and in the crates above.
pub mod OfStacks
pub mod OfFollow
pub mod OfSecond
pub mod OfWalk
pub mod Examples
