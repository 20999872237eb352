pub mod CommandView
pub mod ReplyView
pub mod Written
pub mod Lines
pub mod Pairs
