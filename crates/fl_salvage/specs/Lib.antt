pub mod Faults
pub mod Pages
pub mod Blobs
pub mod Rooms
pub mod Text
pub mod Line
pub mod Given
pub mod Ends
