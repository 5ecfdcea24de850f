pub mod Copies
pub mod Tables
