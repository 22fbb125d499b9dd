pub mod Wrap
pub mod Floor
pub mod Linear
pub mod Equal
pub mod Fits16
pub mod Range
