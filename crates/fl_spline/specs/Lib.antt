pub mod Points
pub mod Corridor
pub mod Scan
pub mod Spline
pub mod Segment
