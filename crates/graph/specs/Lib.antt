pub mod Cycles
pub mod Through
pub mod SameGraph
