pub mod Fit
pub mod Shortcut
