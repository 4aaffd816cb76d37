-- The laws that proofs cite, here and in the crates above.
pub mod OfRuns
pub mod OfTable
pub mod OfTaken
pub mod Examples
