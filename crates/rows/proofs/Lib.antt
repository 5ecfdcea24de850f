pub mod Climbing
pub mod Finding
pub mod RowTables
pub mod Sharing
pub mod Targets
