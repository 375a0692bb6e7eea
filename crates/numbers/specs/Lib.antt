pub mod Busy
pub mod Head
