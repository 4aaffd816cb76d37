-- The laws that proofs cite in the crates above.
pub mod OfTests
pub mod OfCases
pub mod OfLists
