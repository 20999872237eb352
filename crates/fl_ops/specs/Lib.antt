pub mod Columns
pub mod Inputs
pub mod Select
pub mod Project
pub mod Tally
pub mod Groups
pub mod Pairs
pub mod Join
