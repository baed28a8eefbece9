mod Latests
mod Rows
mod Stamped
