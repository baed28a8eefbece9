mod Adding
mod Copies
mod Digits
mod Filling
mod Lacking
mod Opening
mod Stripping
