mod TakenChunks
pub mod Lines
mod Unread
mod Records
mod WrittenRecords
mod FlashEnds
pub mod ImageEnds
pub mod Statuses
mod OverBytes
pub mod ReadBack
