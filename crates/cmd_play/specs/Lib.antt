pub mod Refusing
pub mod Opening
pub mod Boards
pub mod Led
pub mod Kept
pub mod Asking
pub mod Ending
