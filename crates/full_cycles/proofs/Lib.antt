pub mod Full
pub mod Roots
pub mod Largest
pub mod Children
