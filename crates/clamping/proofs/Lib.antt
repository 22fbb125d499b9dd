pub mod Clamp
pub mod ByRule
pub mod AsIs
pub mod Edges
