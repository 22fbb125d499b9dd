pub mod Dequantize
pub mod Screen
pub mod Stored
