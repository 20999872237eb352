pub mod Page
pub mod Headers
pub mod Memory
pub mod Standing
pub mod Outcomes
pub mod Finding
pub mod Loading
pub mod Looking
