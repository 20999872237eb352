pub mod Stream
pub mod Texts
pub mod Taken
pub mod Given
