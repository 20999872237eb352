pub mod Growing
pub mod Ascending
pub mod Shipped
