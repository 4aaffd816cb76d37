-- The laws that proofs cite.
pub mod OfFiles
pub mod OfOutput
