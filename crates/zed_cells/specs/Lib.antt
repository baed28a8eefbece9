pub mod Cells
pub mod Latest
pub mod Writes
