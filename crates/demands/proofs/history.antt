pub mod Awaits
pub mod Past
