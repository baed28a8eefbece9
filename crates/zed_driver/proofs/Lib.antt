pub mod Effects
pub mod Ends
pub mod Outputs
pub mod Reading
