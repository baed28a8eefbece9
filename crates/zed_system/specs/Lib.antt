pub mod Counted
pub mod Held
pub mod Loss
pub mod Names
pub mod Same
pub mod Steps
pub mod Told
