pub mod Policies
pub mod Making
pub mod ByColour
