pub mod Characters
pub mod CodePage
pub mod Digits
pub mod Laws
pub mod Place
pub mod Reading
pub mod Text
