pub mod Adding
pub mod Counted
pub mod Others
