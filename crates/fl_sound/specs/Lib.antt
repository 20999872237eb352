pub mod Sound
pub mod Mounts
