pub mod Plain
pub mod Parts
pub mod Heights
pub mod FromZero
pub mod Raising
pub mod NodeTables
