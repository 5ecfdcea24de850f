pub mod Words
pub mod Families
