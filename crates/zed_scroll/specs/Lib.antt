pub mod Lines
pub mod Window
pub mod Text
