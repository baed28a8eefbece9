pub mod Calls
pub mod Counting
pub mod Faults
pub mod HostContents
pub mod Log
pub mod Memory
