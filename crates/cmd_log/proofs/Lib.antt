pub mod Counted
pub mod Exported
pub mod Unfiltered
