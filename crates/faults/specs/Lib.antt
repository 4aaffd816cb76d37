-- The root of what the contracts cite.
pub mod Faults
pub mod Operands
pub mod Code
