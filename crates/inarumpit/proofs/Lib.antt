pub mod Contracts
pub mod Replies
