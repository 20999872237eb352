pub mod Rings
pub mod Sizes
pub mod Text
pub mod Words
pub mod Lines
pub mod Number
pub mod Ends
pub mod Laws
