pub mod Clearing
pub mod Copies
pub mod Tables
pub mod Stores
pub mod Columns
