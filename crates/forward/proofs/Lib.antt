pub mod Sum
pub mod Folding
pub mod Scaled
pub mod Equal
pub mod Parity
pub mod Canonical
pub mod Samples
