pub mod WayIn
