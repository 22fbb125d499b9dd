pub mod Table
pub mod Zeros
pub mod Nonzeros
