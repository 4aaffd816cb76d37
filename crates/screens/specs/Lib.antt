-- The root of what the contracts cite. All of it is for the code alone.
pub mod Code
