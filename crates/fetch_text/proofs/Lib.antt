-- The laws that proofs cite.
pub mod OfForms
pub mod OfRows
pub mod OfLines
pub mod OfEdits
pub mod OfPromises
pub mod Examples
