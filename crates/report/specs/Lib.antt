-- The root of what the contracts cite.
pub mod Report
pub mod Explanation
pub mod Settings
pub mod Buffer
pub mod Code
