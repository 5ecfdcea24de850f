pub mod NodeTables
pub mod FromZero
