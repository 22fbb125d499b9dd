pub mod Cosine
pub mod Basis
