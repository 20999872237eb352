pub mod Widths
pub mod Bucket
