-- The root of what the contracts cite.
pub mod Text
pub mod Card
pub mod Made
pub mod Written
pub mod Code
