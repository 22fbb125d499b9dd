pub mod Remainder
pub mod Halves
pub mod Zero
pub mod Size
pub mod Divided
