-- The laws that proofs cite, here and in the crates above.
pub mod OfTables
pub mod OfField
pub mod Examples
