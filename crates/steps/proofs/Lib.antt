pub mod Table
pub mod WordRows
pub mod Sets
pub mod Columns
