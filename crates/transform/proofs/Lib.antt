pub mod Words
pub mod Stored
pub mod Whole
pub mod Joined
pub mod Rows
