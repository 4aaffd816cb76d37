-- The root of what the contracts cite. InRow is for the code alone; the others are what a reader has to believe.
pub mod Values
pub mod FetchValues
pub mod InRow
