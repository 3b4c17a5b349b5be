pub mod Closing
mod Unasked
