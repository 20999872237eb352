pub mod Pages
pub mod Looking
pub mod Index
pub mod Standing
pub mod Finding
pub mod Rows
pub mod Laws
