pub mod Sides
pub mod Tallies
pub mod Targets
pub mod Things
