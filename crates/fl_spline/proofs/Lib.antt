pub mod Slopes
pub mod Lists
pub mod Ends
pub mod Scans
pub mod Retained
pub mod Segments
pub mod Window
pub mod MovedPoints
