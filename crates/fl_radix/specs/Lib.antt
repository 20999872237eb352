pub mod Slots
pub mod Radix
