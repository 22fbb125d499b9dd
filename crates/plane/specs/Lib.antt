pub mod Plane
pub mod Ready
pub mod Scale
pub mod Counts
pub mod Placing
pub mod Strips
pub mod Join
