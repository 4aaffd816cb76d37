-- The laws that proofs cite, here and in the crates above.
pub mod OfApart
pub mod OfMarks
pub mod Examples
