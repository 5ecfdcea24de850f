pub mod Full
pub mod Roots
pub mod LargerFirst
pub mod Wanted
pub mod Listing
pub mod Candidates
pub mod Live
