-- The root of what the contracts cite.
pub mod Fetch
pub mod Buffer
