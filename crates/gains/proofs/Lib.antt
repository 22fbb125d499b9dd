pub mod Butterfly
pub mod Unread
