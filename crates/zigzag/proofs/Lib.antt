pub mod Inverse
pub mod Places
