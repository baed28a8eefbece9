pub mod Pictured
pub mod Shown
pub mod Stage
pub mod Told
