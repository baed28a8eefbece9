pub mod Choosing
pub mod Leaving
