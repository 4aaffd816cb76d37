-- The root of what definitions cite.
pub mod Ascii
pub mod Decimal
pub mod Code
