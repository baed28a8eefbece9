pub mod Again
mod Lists
mod Numbers
