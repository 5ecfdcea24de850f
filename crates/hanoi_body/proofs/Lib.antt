pub mod Edges
pub mod Rows
pub mod States
