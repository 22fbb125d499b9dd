pub mod Header
pub mod Grammar
pub mod Reader
