pub mod Doubled
pub mod Entries
pub mod Extent
pub mod Limits
pub mod Times
