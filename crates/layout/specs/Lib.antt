pub mod Laws
pub mod Puts
