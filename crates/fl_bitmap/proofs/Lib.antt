pub mod Masks
pub mod Values
pub mod Pages
pub mod Spans
pub mod Widths
pub mod StoredBits
