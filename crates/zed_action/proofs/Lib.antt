pub mod Calls
pub mod Wants
