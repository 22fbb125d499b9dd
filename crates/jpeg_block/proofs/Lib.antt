pub mod Places
pub mod Handed
pub mod Counted
