pub mod Text
pub mod Steps
pub mod Grammar
pub mod Exact
pub mod Places
pub mod Known
