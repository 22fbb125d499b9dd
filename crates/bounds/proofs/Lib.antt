pub mod Alike
pub mod Near
pub mod Theorem
pub mod Calls
