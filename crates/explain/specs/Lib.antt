-- The root of what the contracts cite. Explain, Lines and Truth are what a reader has to believe; Code is for the code alone.
pub mod Explain
pub mod Lines
pub mod Truth
pub mod Code
