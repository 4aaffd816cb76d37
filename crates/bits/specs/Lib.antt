-- The root of what the contracts cite.
pub mod Fields
pub mod Tables
pub mod Code
