-- The root of what the contracts cite.
pub mod Units
pub mod Code
