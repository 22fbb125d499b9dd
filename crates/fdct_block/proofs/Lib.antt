pub mod Narrow
pub mod Terms
