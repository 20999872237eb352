pub mod Types
pub mod Form
pub mod Refusal
pub mod Schema
