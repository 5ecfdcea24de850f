pub mod Iterates
pub mod Runs
pub mod Search
