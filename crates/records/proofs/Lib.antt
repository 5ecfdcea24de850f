pub mod Copies
pub mod Packing
