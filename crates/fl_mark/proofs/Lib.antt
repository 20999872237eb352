pub mod InModel
