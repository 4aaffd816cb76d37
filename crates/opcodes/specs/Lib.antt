-- The root of what the contracts cite.
pub mod Table
pub mod Numbers
pub mod Alu
pub mod Code
