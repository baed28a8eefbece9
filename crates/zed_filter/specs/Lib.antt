pub mod Passing
pub mod Sought
