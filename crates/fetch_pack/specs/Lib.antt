-- The root of what the contracts cite. Code is for the code alone; the other is what a reader has to believe.
pub mod Pack
pub mod Code
