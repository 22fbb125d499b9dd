pub mod Scaling
