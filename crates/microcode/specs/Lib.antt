-- The root of what the contracts cite.
pub mod Answer
pub mod Pair
pub mod Buffer
pub mod Code
