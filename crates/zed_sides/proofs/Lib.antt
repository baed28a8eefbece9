pub mod Latests
pub mod Overriding
pub mod Hiding
