pub mod Tab
pub mod Below
pub mod Every
pub mod Grid
pub mod Parts
pub mod Made
