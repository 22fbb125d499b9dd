pub mod Clamping
pub mod Rule
pub mod Counts
