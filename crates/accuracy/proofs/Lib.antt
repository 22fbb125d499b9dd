pub mod Passes
pub mod Gains
pub mod Distance
pub mod Inverse
pub mod Sample
