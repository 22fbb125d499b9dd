pub mod Fewest
pub mod Told
pub mod Blocks
