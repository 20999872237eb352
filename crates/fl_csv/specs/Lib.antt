pub mod Text
pub mod Lines
pub mod Reads
pub mod Views
pub mod Laws
