pub mod Gains
pub mod Bounds
