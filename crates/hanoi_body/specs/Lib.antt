pub mod Edges
pub mod Body
pub mod Rows
