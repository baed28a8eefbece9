pub mod Driven
pub mod Effects
pub mod Hosts
pub mod Reading
pub mod Reads
pub mod Writes
