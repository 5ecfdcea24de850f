pub mod Winning
pub mod Calls
pub mod Solved
pub mod Instances
