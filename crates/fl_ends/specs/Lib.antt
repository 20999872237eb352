pub mod Words
pub mod RunNumber
pub mod ShellNumber
