pub mod lists
pub mod history
pub mod invariant
pub mod page
pub mod machines
pub mod Ours
