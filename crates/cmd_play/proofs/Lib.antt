mod Asking
mod Boarding
mod Exported
pub mod Kept
