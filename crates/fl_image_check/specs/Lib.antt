pub mod Report
pub mod Checking
