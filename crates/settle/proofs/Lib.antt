pub mod HandOut
pub mod Moves
