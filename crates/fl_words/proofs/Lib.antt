pub mod Lines
pub mod Tests
