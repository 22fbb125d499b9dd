pub mod Table
pub mod White
