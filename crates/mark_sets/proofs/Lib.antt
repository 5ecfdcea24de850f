pub mod Firsts
pub mod Turns
pub mod Unions
