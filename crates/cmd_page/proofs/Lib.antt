pub mod Adding
pub mod Contained
pub mod Few
