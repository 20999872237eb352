pub mod Replies
pub mod Locks
pub mod Image
