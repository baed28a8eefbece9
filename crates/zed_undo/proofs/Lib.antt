pub mod Led
pub mod Left
