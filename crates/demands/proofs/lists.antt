pub mod Lists
pub mod Apart
pub mod Places
