pub mod Laws
pub mod Visits
pub mod Outcome
pub mod Sweeping
