-- The root of what the contracts cite. Group is what a reader has to believe; Code is for the code alone.
pub mod Group
pub mod Code
