pub mod Findings
pub mod Reading
pub mod Registers
pub mod Silence
