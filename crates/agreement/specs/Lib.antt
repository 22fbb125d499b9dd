pub mod Agreement
pub mod Exact
pub mod Budget
