pub mod WriterState
pub mod Writer
pub mod Header
pub mod Page
pub mod View
pub mod Causes
pub mod Steps
pub mod Ascending
