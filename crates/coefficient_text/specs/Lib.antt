pub mod Lines
pub mod Stores
pub mod Text
pub mod Answer
