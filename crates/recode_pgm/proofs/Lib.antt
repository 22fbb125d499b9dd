pub mod Calls
pub mod Picture
