-- The root of what the contracts cite.
pub mod Setting
pub mod ReadBack
