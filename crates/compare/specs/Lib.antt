-- The root of what the contracts cite.
pub mod Changed
pub mod Laws
pub mod Code
