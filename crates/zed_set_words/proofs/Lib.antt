pub mod Characters
pub mod Cuts
pub mod Signs
pub mod Tests
pub mod Told
