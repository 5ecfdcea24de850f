pub mod StateTables
