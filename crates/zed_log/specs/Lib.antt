pub mod Boards
pub mod Fields
pub mod Laws
pub mod Line
pub mod ListLaws
pub mod Program
pub mod Stats
pub mod Words
