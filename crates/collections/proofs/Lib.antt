pub mod Sets
pub mod Ends
pub mod Fewer
pub mod Upward
