pub mod Every
pub mod Words
pub mod Cards
pub mod Holds
