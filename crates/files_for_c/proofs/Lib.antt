-- The laws that proofs cite.
pub mod OfReleased
