pub mod Edited
pub mod Fresh
