-- The root of what the contracts cite. Code is for the code alone; the others are what a reader has to believe.
pub mod Text
pub mod Edit
pub mod Code
