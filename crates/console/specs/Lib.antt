-- The root of what the contracts cite.
pub mod Tools
pub mod Files
pub mod Output
pub mod Rooms
