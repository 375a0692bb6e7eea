pub mod Walked
pub mod Seek
