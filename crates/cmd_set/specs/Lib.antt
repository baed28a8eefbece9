pub mod Again
pub mod Deeds
pub mod Granting
pub mod Printed
pub mod Setting
