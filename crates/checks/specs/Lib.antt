-- The root of what the contracts cite.
pub mod Verdict
pub mod Checks
pub mod Laws
