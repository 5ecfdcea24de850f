pub mod Pool
pub mod Listing
