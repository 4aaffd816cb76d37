-- The root of what the contracts cite. CodeRows and CodeHeld are for the code alone; the others are what a reader has to believe.
pub mod Flow
pub mod Rules
pub mod Walk
pub mod CodeRows
pub mod CodeHeld
