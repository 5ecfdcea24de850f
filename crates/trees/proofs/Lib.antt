pub mod Growing
pub mod Roots
