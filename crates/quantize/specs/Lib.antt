pub mod Quantize
pub mod Divided
