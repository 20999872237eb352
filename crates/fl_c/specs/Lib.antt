pub mod Ending
pub mod Ran
