pub mod Pool
pub mod Graphs
