pub mod MarkSets
