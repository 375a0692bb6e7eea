pub mod Walk
pub mod Ways
pub mod NoScans
pub mod FirstChangeOnly
pub mod OldStore
pub mod ClearAtBegin
