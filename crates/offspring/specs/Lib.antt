pub mod Offspring
pub mod Looking
