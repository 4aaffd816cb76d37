-- The root of what the contracts cite. Code is for the code alone; Control and Rules are what a reader has to believe.
pub mod Control
pub mod Rules
pub mod Code
