pub mod Sum
pub mod Forward
pub mod Parity
pub mod Canonical
