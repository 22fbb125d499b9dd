pub mod Rule
pub mod Mirror
pub mod Enclosed
