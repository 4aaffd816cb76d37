-- The laws that proofs cite in the crates above.
pub mod OfDecimal
pub mod OfFeeds
