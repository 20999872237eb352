pub mod ShortBlobs
pub mod Passed
pub mod Saved
