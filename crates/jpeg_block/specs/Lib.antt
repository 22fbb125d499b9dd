pub mod Places
pub mod Queue
pub mod Counts
pub mod Search
