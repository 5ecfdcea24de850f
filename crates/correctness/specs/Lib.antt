pub mod Calls
pub mod Demand3
pub mod Known
pub mod FirstPriorities
pub mod Judgings
pub mod Instances
pub mod Heartbeat
