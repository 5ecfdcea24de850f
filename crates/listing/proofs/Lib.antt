pub mod Appending
pub mod Turns
pub mod Steps
