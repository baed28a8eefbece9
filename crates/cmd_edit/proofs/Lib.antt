pub mod Lacking
pub mod Making
pub mod Opened
