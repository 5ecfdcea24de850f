pub mod Automaton
pub mod Stages
