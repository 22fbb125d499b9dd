pub mod Orthogonal
pub mod Basis
pub mod Rounding
pub mod Reconstruction
pub mod Energy
