pub mod Sifting
