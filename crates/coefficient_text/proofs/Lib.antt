pub mod Stores
pub mod Decimal
pub mod Readable
pub mod Input
pub mod Answer
