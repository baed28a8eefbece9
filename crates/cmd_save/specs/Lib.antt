pub mod Made
pub mod Report
