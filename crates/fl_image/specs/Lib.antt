pub mod Number
pub mod Status
pub mod Header
pub mod Image
