-- The root of what the contracts cite. Code is for the code alone; Apart is what a reader has to believe.
pub mod Apart
pub mod Code
