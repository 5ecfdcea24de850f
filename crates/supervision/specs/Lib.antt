pub mod Supervision
