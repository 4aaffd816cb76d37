-- The root of what the contracts cite.
pub mod Words
pub mod Input
pub mod Released
