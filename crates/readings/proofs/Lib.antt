pub mod Owes
pub mod Peeks
