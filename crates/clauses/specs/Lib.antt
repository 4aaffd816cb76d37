-- The root of what the contracts cite. Clause is what a reader has to believe; CodeRead and CodeScreen are for the code alone.
pub mod Clause
pub mod CodeRead
pub mod CodeScreen
