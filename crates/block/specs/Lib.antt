pub mod Block
pub mod Clamped
pub mod Bound
pub mod Level
