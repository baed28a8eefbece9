pub mod Clash
pub mod Clock
pub mod Finding
pub mod Runs
