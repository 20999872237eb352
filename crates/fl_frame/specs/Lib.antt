pub mod Causes
pub mod Contents
pub mod Device
pub mod Laws
pub mod Reads
pub mod Watched
