pub mod Counts
pub mod Tells
