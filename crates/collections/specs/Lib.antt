pub mod Collections
